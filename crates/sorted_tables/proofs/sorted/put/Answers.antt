use Rattle.std.proofs.Common.{refl}
use Rattle.sorted_tables.proofs.Finding.{put_there, put_absent}
use Rattle.sorted_tables.proofs.sorted.put.Goals as goal

pub returns-in-Ok-clause-rows : goal.returns-in-Ok-clause-rows
returns-in-Ok-clause-rows g c =
    rw (← c.deref.ensures.value) (put_there g.T.Row.cmp g.T.Row.key g.met.T.Row.total c.args.row c.deref.result.now c.deref.result.now c.in-Ok.place refl c.in-Ok.ensures).are

pub returns-in-Ok-clause-order : goal.returns-in-Ok-clause-order
returns-in-Ok-clause-order g c =
    rw (← c.deref.ensures.value) (put_there g.T.Row.cmp g.T.Row.key g.met.T.Row.total c.args.row c.deref.result.now c.deref.result.now c.in-Ok.place refl c.in-Ok.ensures).ascends

pub returns-in-Err-clause-rows : goal.returns-in-Err-clause-rows
returns-in-Err-clause-rows g c =
    rw (c.insert.ensures.items, c.unwrap.ensures, ← c.deref.ensures.value) (put_absent g.T.Row.cmp g.T.Row.key g.met.T.Row.total c.args.row c.deref.result.now c.deref.result.now c.in-Err.place refl c.in-Err.ensures).are

pub returns-in-Err-clause-order : goal.returns-in-Err-clause-order
returns-in-Err-clause-order g c =
    rw (c.insert.ensures.items, c.unwrap.ensures, ← c.deref.ensures.value) (put_absent g.T.Row.cmp g.T.Row.key g.met.T.Row.total c.args.row c.deref.result.now c.deref.result.now c.in-Err.place refl c.in-Err.ensures).ascends
