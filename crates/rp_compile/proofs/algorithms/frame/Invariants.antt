use Rattle.std.proofs.Common.{◌≡◌, drop, map, ◌++◌}
use Rattle.ex_kinds.specs.Kinds.{of_type}
use Rattle.rp_compile.proofs.algorithms.frame.Given as goal

abbrev pub invariant-loop-data_type : goal.invariant-loop-data_type
invariant-loop-data_type l = l.found ++ map of_type (map (λ t. t.now) (drop l.data_type-index l.types)) ≡ map of_type (map (λ t. t.now) l.types)
