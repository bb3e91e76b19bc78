use Rattle.std.proofs.Common.{refl}
use Rattle.sorted_tables.proofs.Finding.{taken_there, taken_absent}
use Rattle.sorted_tables.proofs.sorted.remove.Goals as goal

pub returns-in-Ok-clause-rows : goal.returns-in-Ok-clause-rows
returns-in-Ok-clause-rows g c =
    rw (c.remove.ensures.items, ← c.deref.ensures.value) (taken_there g.T.Row.cmp g.T.Row.key g.met.T.Row.total (g.S.Sought.sought c.args.sought.now) c.deref.result.now c.deref.result.now c.in-Ok.place refl c.in-Ok.ensures).are

pub returns-in-Ok-clause-order : goal.returns-in-Ok-clause-order
returns-in-Ok-clause-order g c =
    rw (c.remove.ensures.items, ← c.deref.ensures.value) (taken_there g.T.Row.cmp g.T.Row.key g.met.T.Row.total (g.S.Sought.sought c.args.sought.now) c.deref.result.now c.deref.result.now c.in-Ok.place refl c.in-Ok.ensures).ascends

pub returns-in_default-clause-rows : goal.returns-in_default-clause-rows
returns-in_default-clause-rows g c =
    rw (← c.deref.ensures.value) (taken_absent g.T.Row.cmp g.T.Row.key g.met.T.Row.total (g.S.Sought.sought c.args.sought.now) c.deref.result.now c.in_default.field-0 c.in_default.ensures)
