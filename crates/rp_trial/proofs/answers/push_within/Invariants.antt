use Rattle.std.proofs.Common.{◌≡◌, ◌++◌, drop}
use Rattle.rp_eval_parts.specs.Serving.{Remembers}
use Rattle.rp_trial.specs.Answers as spec
use Rattle.rp_trial.proofs.answers.push_within.Given as goal

abbrev pub invariant-loop-rule : goal.invariant-loop-rule
invariant-loop-rule l = record {
  memory : Remembers l.world l.memory;
  found : l.found ++ spec.answers_within l.world (drop l.rule-index l.conditions) l.limit ≡ l.fn.found ++ spec.answers_within l.world l.conditions l.limit;
}
