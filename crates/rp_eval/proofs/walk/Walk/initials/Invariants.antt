use Rattle.std.proofs.Common.{◌≡◌, drop}
use Rattle.rp_meaning.specs.Levels.{most_turns}
use Rattle.rp_meaning.specs.Statements as spec
use Rattle.rp_eval_parts.specs.Serving.{Ready}
use Rattle.rp_eval.specs.Bodies.{bodies_at}
use Rattle.rp_eval.proofs.walk.Walk.initials.Given as goal

abbrev pub invariant-loop-initial : goal.invariant-loop-initial
invariant-loop-initial g l =
    let means = spec.initialized (g.W.Setting.world l.self.world.now) most_turns (bodies_at (g.W.Setting.world l.self.world.now) l.self.levels) in
    record {
      ready : Ready (g.W.Setting.world l.self.world.now) l.run.memory;
      runs : means (drop l.initial-index l.initials) l.frame l.run.counter ≡ means l.initials l.fn.frame l.fn.run.counter;
    }
