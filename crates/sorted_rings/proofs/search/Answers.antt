use Rattle.std.proofs.Common.{◌<◌, ◌≤◌, length, sym, ◌∙◌, ap, arith}
use Rattle.std.specs.Ordering.{is_eq}
use Rattle.sorted_tables.proofs.Finding.{there_at, absent_at, absent_past}
use Rattle.sorted_rings.proofs.search.Goals as goal

pub returns-then-place-len : goal.returns-then-place-len
returns-then-place-len g c =
    let ring = c.args.rows.now in
    let past : length ring.items ≤ c.place-place.result = omega (arith, c.if-place-len.true, c.len.ensures, ring.ok.0) in
    absent_past g.T.Row.cmp g.T.Row.key g.met.T.Row.total (g.S.Sought.sought c.args.sought.now) ring.items c.place-place.result c.requires c.place-place.ensures past

pub returns-then-is_eq : goal.returns-then-is_eq
returns-then-is_eq g c =
    let ring = c.args.rows.now in
    let within : c.place-place.result < length ring.items = omega (arith, c.if-place-len.false, c.len.ensures, ring.ok.0) in
    there_at g.T.Row.cmp g.T.Row.key g.met.T.Row.total (g.S.Sought.sought c.args.sought.now) ring.items c.place-place.result c.index.result.now c.requires c.place-place.ensures within (sym c.index.ensures)
    (ap is_eq (sym c.order_of.ensures) ∙ sym c.is_eq.ensures ∙ c.if-is_eq.true)

pub returns-else-is_eq : goal.returns-else-is_eq
returns-else-is_eq g c =
    let ring = c.args.rows.now in
    let within : c.place-place.result < length ring.items = omega (arith, c.if-place-len.false, c.len.ensures, ring.ok.0) in
    absent_at g.T.Row.cmp g.T.Row.key g.met.T.Row.total (g.S.Sought.sought c.args.sought.now) ring.items c.place-place.result c.index.result.now c.requires c.place-place.ensures within (sym c.index.ensures)
    (ap is_eq (sym c.order_of.ensures) ∙ sym c.is_eq.ensures ∙ c.if-is_eq.false)
