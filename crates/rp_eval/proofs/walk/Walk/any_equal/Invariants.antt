use Rattle.std.proofs.Common.{◌≡◌, length}
use Rattle.rp_code.specs.Denoted.{expressions_of}
use Rattle.rp_meaning.specs.Statements as spec
use Rattle.rp_eval_parts.specs.Serving.{Ready}
use Rattle.rp_eval.specs.Bodies.{value_at}
use Rattle.rp_eval.proofs.walk.Walk.any_equal.Given as goal

abbrev pub invariant-loop-label : goal.invariant-loop-label
invariant-loop-label g l =
    let value = value_at (g.W.Setting.world l.self.world.now) l.self.levels in
    record {
      ready : Ready (g.W.Setting.world l.self.world.now) l.run.memory;
      frame : l.frame ≡ l.fn.frame;
      runs : spec.any_equal value l.selector (expressions_of l.others) l.fn.frame l.run.counter ≡ spec.any_equal value l.selector (expressions_of l.fn.labels) l.fn.frame l.fn.run.counter;
    }

abbrev pub decreases-loop-label : goal.decreases-loop-label
decreases-loop-label g l = length l.others
