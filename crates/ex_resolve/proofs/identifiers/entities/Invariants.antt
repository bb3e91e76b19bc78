use Rattle.std.proofs.Common.{◌≡◌, drop}
use Rattle.std.specs.List.{list_all}
use Rattle.ex_tree.specs.Identifiers.{is_identifier}
use Rattle.ex_resolve.proofs.identifiers.entities.Given as goal

abbrev pub invariant-loop-entity : goal.invariant-loop-entity
invariant-loop-entity l = list_all (λ e. is_identifier e.name.text) (drop l.entity-index l.entities) ≡ list_all (λ e. is_identifier e.name.text) l.entities
