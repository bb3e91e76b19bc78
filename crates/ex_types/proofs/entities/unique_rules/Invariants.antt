use Rattle.std.proofs.Common.{◌≡◌, drop}
use Rattle.ex_types.specs.Declarations as spec
use Rattle.ex_types.proofs.entities.unique_rules.Given as goal

abbrev pub invariant-loop-rule : goal.invariant-loop-rule
invariant-loop-rule l = spec.told_after (λ r. spec.told spec.ambiguous r.attributes) l.found (drop l.rule-index l.list) ≡ spec.told (λ r. spec.told spec.ambiguous r.attributes) l.list
