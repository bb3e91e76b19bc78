use Rattle.std.proofs.Common.{◌≡◌, ◌++◌, drop}
use Rattle.std.specs.List.{flat_map}
use Rattle.graphs.specs.Graphs as graphs
use Rattle.ex_kinds.specs.Types as spec
use Rattle.ex_kinds.proofs.types.Types.push_plain.Given as goal

abbrev pub invariant-loop-member : goal.invariant-loop-member
invariant-loop-member l =
    l.found ++ flat_map (λ m. spec.own (spec.declared l.self m)) (drop l.member-index l.member-items)
    ≡ l.initial.found ++ flat_map (λ m. spec.own (spec.declared l.self m)) (graphs.family (spec.alternatives l.self) l.number)
