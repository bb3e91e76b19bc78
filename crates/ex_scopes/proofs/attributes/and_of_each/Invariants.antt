use Rattle.std.proofs.Common.{◌≡◌, ◌==◌, drop, filter}
use Rattle.std.specs.List.{flat_map}
use Rattle.ex_scopes.specs.Attributes.{seen_after}
use Rattle.ex_scopes.specs.Sorts.{admitted}
use Rattle.ex_scopes.proofs.attributes.and_of_each.Given as goal

abbrev pub invariant-loop-entity : goal.invariant-loop-entity
invariant-loop-entity l = seen_after (admitted l.sorts) l.seen (flat_map (λ e. filter (λ a. e == a.entity) l.places) (drop l.entity-index l.entities))
    ≡ seen_after (admitted l.sorts) l.fn.before (flat_map (λ e. filter (λ a. e == a.entity) l.places) l.entities)
