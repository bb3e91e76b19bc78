use Rattle.std.proofs.Common.{◌≡◌, ◌++◌, map, drop}
use Rattle.ex_declarations.specs.Declared as spec
use Rattle.ex_declarations.proofs.reaching.type_graph.Given as goal

abbrev pub invariant-loop-declared : goal.invariant-loop-declared
invariant-loop-declared l =
    l.graph ++ map (λ x. spec.held_types l.declarations x.underlying) (map (λ e. e.now) (drop l.declared-index l.types))
    ≡ map (λ x. spec.held_types l.declarations x.underlying) (map (λ e. e.now) l.types)
