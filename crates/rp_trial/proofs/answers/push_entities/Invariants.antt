use Rattle.std.proofs.Common.{◌≡◌, ◌++◌, drop}
use Rattle.std.specs.List.{flat_map}
use Rattle.plain_data.specs.Numbers.{numbered, numbered_from}
use Rattle.rp_trial.specs.Answers as spec
use Rattle.rp_trial.proofs.answers.push_entities.Given as goal

abbrev pub invariant-loop-number : goal.invariant-loop-number
invariant-loop-number l =
    l.found ++ flat_map (λ rules. rules) (numbered_from spec.entity_conditions l.number (drop l.number l.entities)) ≡ l.initial.found ++ flat_map (λ rules. rules) (numbered spec.entity_conditions l.entities)
