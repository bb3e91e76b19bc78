use Rattle.std.proofs.Common.{◌≡◌, ◌++◌, map, drop}
use Rattle.std.specs.List.{filter_map}
use Rattle.ex_declarations.specs.Declared as spec
use Rattle.ex_declarations.proofs.sorts.types.Given as goal

abbrev pub invariant-loop-declaration : goal.invariant-loop-declaration
invariant-loop-declaration l = map (λ x. x.now) l.found.items ++ filter_map spec.type_of (drop l.declaration-index l.declaration-items) ≡ spec.types l.schema
