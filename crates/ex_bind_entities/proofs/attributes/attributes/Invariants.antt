use Rattle.std.proofs.Common.{◌≡◌, drop}
use Rattle.ex_named.specs.Outcomes.{each, each_after}
use Rattle.ex_bind_entities.specs.Entities.{attribute}
use Rattle.ex_scopes.specs.Sorts.{admitted}
use Rattle.ex_bind_entities.proofs.attributes.attributes.Given as goal

abbrev pub invariant-loop-declaration : goal.invariant-loop-declaration
invariant-loop-declaration l = each_after (attribute l.context.declarations.now l.context.supertypes.now (admitted l.sorts) l.context.entity) l.found (drop l.declaration-index l.declarations) ≡ each (attribute l.context.declarations.now l.context.supertypes.now (admitted l.sorts) l.context.entity) l.declarations
