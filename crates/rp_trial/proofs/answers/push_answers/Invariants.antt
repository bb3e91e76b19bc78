use Rattle.std.proofs.Common.{◌≡◌, ◌++◌, map, drop}
use Rattle.rp_eval_parts.specs.Serving.{Remembers}
use Rattle.rp_trial.specs.Answers as spec
use Rattle.rp_trial.proofs.answers.push_answers.Given as goal

abbrev pub invariant-loop-itself : goal.invariant-loop-itself
invariant-loop-itself l = record {
  memory : Remembers l.world l.memory;
  found : l.found ++ map (spec.answer l.world l.asked.limit l.asked.rule) (drop l.itself-index l.itself-items)
      ≡ l.fn.found ++ map (spec.answer l.world l.asked.limit l.asked.rule) l.itself-items;
}
