use Rattle.std.proofs.Common.{◌≡◌, drop}
use Rattle.ex_types.specs.Declarations as spec
use Rattle.ex_typing.specs.Expressions.{expression}
use Rattle.ex_types.proofs.rules.domain_rules.Given as goal

abbrev pub invariant-loop-rule : goal.invariant-loop-rule
invariant-loop-rule l = spec.told_after (λ r. (expression l.schema l.scope r.condition).fault) l.found (drop l.rule-index l.list) ≡ spec.told (λ r. (expression l.schema l.scope r.condition).fault) l.list
