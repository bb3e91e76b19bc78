use Rattle.std.proofs.Common.{◌≡◌, drop}
use Rattle.ex_named.specs.Outcomes.{each, each_after}
use Rattle.ex_bind_entities.specs.Entities.{explicit_attribute}
use Rattle.ex_bind_entities.proofs.attributes.explicit_attributes.Given as goal

abbrev pub invariant-loop-explicit : goal.invariant-loop-explicit
invariant-loop-explicit l = each_after (explicit_attribute l.context.declarations.now l.context.supertypes.now l.context.entity) l.found (drop l.explicit-index l.list) ≡ each (explicit_attribute l.context.declarations.now l.context.supertypes.now l.context.entity) l.list
