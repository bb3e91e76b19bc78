use Rattle.std.proofs.Common.{◌≡◌, ◌-◌, length}
use Rattle.std.specs.List.{list_any}
use Rattle.graphs.specs.Graphs.{numbers_from}
use Rattle.ex_attributes.specs.Attributes as spec
use Rattle.ex_attributes.proofs.attributes.Attributes.is_ambiguous.Given as goal

abbrev pub invariant-loop-entity : goal.invariant-loop-entity
invariant-loop-entity l =
    list_any (λ e. spec.is_several (spec.named_attributes l.self e l.name)) (numbers_from l.entity (length l.self.supertypes - l.entity))
    ≡ spec.is_ambiguous_in_some l.self l.name
