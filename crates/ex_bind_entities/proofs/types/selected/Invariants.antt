use Rattle.std.proofs.Common.{◌≡◌, drop}
use Rattle.ex_named.specs.Outcomes.{each, each_after}
use Rattle.ex_named.specs.Scopes.{type_name}
use Rattle.ex_bind_entities.proofs.types.selected.Given as goal

abbrev pub invariant-loop-name : goal.invariant-loop-name
invariant-loop-name l = each_after (type_name l.declarations) l.found (drop l.name-index l.names) ≡ each (type_name l.declarations) l.names
