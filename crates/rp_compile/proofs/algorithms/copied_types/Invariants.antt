use Rattle.std.proofs.Common.{◌≡◌, drop, map, ◌++◌}
use Rattle.rp_compile.proofs.algorithms.copied_types.Given as goal

abbrev pub invariant-loop-data_type : goal.invariant-loop-data_type
invariant-loop-data_type l = l.found ++ map (λ t. t.now) (drop l.data_type-index l.types) ≡ map (λ t. t.now) l.types
