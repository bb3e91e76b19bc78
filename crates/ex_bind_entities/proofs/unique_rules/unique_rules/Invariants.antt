use Rattle.std.proofs.Common.{◌≡◌, drop}
use Rattle.ex_named.specs.Outcomes.{each, each_after}
use Rattle.ex_bind_entities.specs.Entities.{unique_rule}
use Rattle.ex_bind_entities.proofs.unique_rules.unique_rules.Given as goal

abbrev pub invariant-loop-rule : goal.invariant-loop-rule
invariant-loop-rule l = each_after (unique_rule l.context.declarations.now l.context.supertypes.now l.context.entity) l.found (drop l.rule-index l.rules) ≡ each (unique_rule l.context.declarations.now l.context.supertypes.now l.context.entity) l.rules
