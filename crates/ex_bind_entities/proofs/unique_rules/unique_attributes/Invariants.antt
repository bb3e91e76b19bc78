use Rattle.std.proofs.Common.{◌≡◌, drop}
use Rattle.ex_named.specs.Outcomes.{each, each_after}
use Rattle.ex_bind_entities.specs.Entities.{unique_attribute}
use Rattle.ex_bind_entities.proofs.unique_rules.unique_attributes.Given as goal

abbrev pub invariant-loop-named : goal.invariant-loop-named
invariant-loop-named l = each_after (unique_attribute l.context.declarations.now l.context.supertypes.now l.context.entity) l.found (drop l.named-index l.list) ≡ each (unique_attribute l.context.declarations.now l.context.supertypes.now l.context.entity) l.list
