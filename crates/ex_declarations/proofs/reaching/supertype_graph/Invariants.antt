use Rattle.std.proofs.Common.{◌≡◌, ◌++◌, map, drop}
use Rattle.std.specs.List.{filter_map}
use Rattle.ex_named.specs.Scopes.{declared, as_entity, and_then}
use Rattle.ex_declarations.proofs.reaching.supertype_graph.Given as goal

abbrev pub invariant-loop-entity : goal.invariant-loop-entity
invariant-loop-entity l =
    l.graph ++ map (λ e. filter_map (λ n. and_then (declared l.declarations n.text) (as_entity l.declarations)) e.head.supertypes) (map (λ e. e.now) (drop l.entity-index l.entities))
    ≡ map (λ e. filter_map (λ n. and_then (declared l.declarations n.text) (as_entity l.declarations)) e.head.supertypes) (map (λ e. e.now) l.entities)
