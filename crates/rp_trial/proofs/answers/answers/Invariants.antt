use Rattle.std.proofs.Common.{◌≡◌, ◌++◌, drop}
use Rattle.std.specs.List.{flat_map}
use Rattle.rp_eval_parts.specs.Serving.{Remembers}
use Rattle.rp_trial.specs.Answers as spec
use Rattle.rp_trial.proofs.answers.answers.Given as goal

abbrev pub invariant-loop-limit : goal.invariant-loop-limit
invariant-loop-limit l = record {
  memory : Remembers l.world l.memory;
  found : l.found ++ flat_map (spec.answers_within l.world (spec.conditions l.schema)) (drop l.limit-index l.limits)
      ≡ flat_map (spec.answers_within l.world (spec.conditions l.schema)) l.limits;
}
