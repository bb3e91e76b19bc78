use Rattle.std.proofs.Common.{◌≡◌, drop}
use Rattle.ex_named.specs.Outcomes.{each, each_after}
use Rattle.ex_bind_entities.specs.Entities.{derived_attribute}
use Rattle.ex_bind_entities.proofs.attributes.derived_attributes.Given as goal

abbrev pub invariant-loop-derived : goal.invariant-loop-derived
invariant-loop-derived l = each_after (derived_attribute l.context.declarations.now l.context.supertypes.now l.context.entity) l.found (drop l.derived-index l.list) ≡ each (derived_attribute l.context.declarations.now l.context.supertypes.now l.context.entity) l.list
