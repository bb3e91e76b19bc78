use Rattle.std.proofs.Common.{rules}
use Rattle.rp_eval.specs.Bodies.{bodies_at}
use Rattle.rp_eval.proofs.walk.Walk.grouped.Goals as goal

pub returns : goal.returns
returns g c =
    let is = c.group.ensures (bodies_at (g.W.Setting.world c.args.self.now.world.now) c.args.self.now.levels) in
    search (rules, is)
