use Rattle.std.proofs.Common.{◌≡◌, drop}
use Rattle.ex_named.specs.Outcomes.{each, each_after}
use Rattle.ex_bind_entities.specs.Entities.{inverse_attribute}
use Rattle.ex_bind_entities.proofs.attributes.inverse_attributes.Given as goal

abbrev pub invariant-loop-inverse : goal.invariant-loop-inverse
invariant-loop-inverse l = each_after (inverse_attribute l.context.declarations.now l.context.supertypes.now) l.found (drop l.inverse-index l.list) ≡ each (inverse_attribute l.context.declarations.now l.context.supertypes.now) l.list
