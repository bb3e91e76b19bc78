use Rattle.std.proofs.Common.{◌≡◌, ◌<◌, length, get_or, refl, sym, ◌∙◌, ap, arith}
use Rattle.std.specs.Ordering.{is_eq}
use Rattle.sorted_tables.proofs.Finding.{there_at, absent_at, absent_past}
use Rattle.sorted_tables.proofs.sorted.search.Goals as goal

pub returns-then-place-rows : goal.returns-then-place-rows
returns-then-place-rows g c =
    absent_past g.T.Row.cmp g.T.Row.key g.met.T.Row.total (g.S.Sought.sought c.args.sought.now) c.args.rows.now c.place-place.result c.requires c.place-place.ensures (omega (arith, c.if-place-rows.true))

pub returns-then-is_eq : goal.returns-then-is_eq
returns-then-is_eq g c =
    let rows = c.args.rows.now in
    let within : c.place-place.result < length rows = omega (arith, c.if-place-rows.false) in
    there_at g.T.Row.cmp g.T.Row.key g.met.T.Row.total (g.S.Sought.sought c.args.sought.now) rows c.place-place.result c.index-rows-place.result c.requires c.place-place.ensures within (sym c.index-rows-place.is)
    (ap is_eq (sym c.order_of.ensures) ∙ sym c.is_eq.ensures ∙ c.if-is_eq.true)

pub returns-else-is_eq : goal.returns-else-is_eq
returns-else-is_eq g c =
    let rows = c.args.rows.now in
    let within : c.place-place.result < length rows = omega (arith, c.if-place-rows.false) in
    absent_at g.T.Row.cmp g.T.Row.key g.met.T.Row.total (g.S.Sought.sought c.args.sought.now) rows c.place-place.result c.index-rows-place.result c.requires c.place-place.ensures within (sym c.index-rows-place.is)
    (ap is_eq (sym c.order_of.ensures) ∙ sym c.is_eq.ensures ∙ c.if-is_eq.false)
