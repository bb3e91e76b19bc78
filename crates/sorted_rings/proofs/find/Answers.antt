use Rattle.std.proofs.Common.{sym}
use Rattle.sorted_tables.proofs.Finding.{found_is}
use Rattle.sorted_rings.proofs.find.Goals as goal

pub returns-in-Ok : goal.returns-in-Ok
returns-in-Ok g c =
    sym (found_is g.T.Row.cmp g.T.Row.key g.met.T.Row.total (g.S.Sought.sought c.args.sought.now) c.args.rows.now.items c.in-Ok.place c.index.result.now c.in-Ok.ensures (sym c.index.ensures))
