use Rattle.std.proofs.Common.{◌≡◌, Option, Some, None, refl, arith}
use Rattle.std.specs.Prelude.{IsSome, OnSome}
use Rattle.std.specs.List.{remove}
use Rattle.sorted_tables.proofs.Finding.{taken_there, taken_absent}
use Rattle.sorted_rings.proofs.remove.Goals as goal

of_some : {X P : Type 0} (o : Option X) → IsSome o → OnSome o P → P
of_some None some holds = cc
of_some (Some x) some holds = holds

pub returns-in-Ok-clause-rows : goal.returns-in-Ok-clause-rows
returns-in-Ok-clause-rows g c =
    let ring = c.args.rows.now in
    let there = c.in-Ok.ensures in
    let taken : c.remove.new.self.items ≡ remove ring.items c.in-Ok.place = of_some c.remove.result (c.remove.ensures.variant.1 (omega (arith, there.within, ring.ok.0))) c.remove.ensures.items in
    rw taken (taken_there g.T.Row.cmp g.T.Row.key g.met.T.Row.total (g.S.Sought.sought c.args.sought.now) ring.items ring.items c.in-Ok.place refl there).are

pub returns-in-Ok-clause-order : goal.returns-in-Ok-clause-order
returns-in-Ok-clause-order g c =
    let ring = c.args.rows.now in
    let there = c.in-Ok.ensures in
    let taken : c.remove.new.self.items ≡ remove ring.items c.in-Ok.place = of_some c.remove.result (c.remove.ensures.variant.1 (omega (arith, there.within, ring.ok.0))) c.remove.ensures.items in
    rw taken (taken_there g.T.Row.cmp g.T.Row.key g.met.T.Row.total (g.S.Sought.sought c.args.sought.now) ring.items ring.items c.in-Ok.place refl there).ascends

pub returns-in_default-clause-rows : goal.returns-in_default-clause-rows
returns-in_default-clause-rows g c = taken_absent g.T.Row.cmp g.T.Row.key g.met.T.Row.total (g.S.Sought.sought c.args.sought.now) c.args.rows.now.items c.in_default.field-0 c.in_default.ensures
