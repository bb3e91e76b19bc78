use Rattle.std.proofs.Common.{◌≡◌, ◌++◌, map, drop}
use Rattle.ex_kinds.specs.Kinds.{of_type}
use Rattle.ex_types.proofs.known.constant_kinds.Given as goal

abbrev pub invariant-loop-constant : goal.invariant-loop-constant
invariant-loop-constant l = l.found ++ map (λ c. of_type c.data_type) (drop l.constant-index l.constants) ≡ map (λ c. of_type c.data_type) l.constants
