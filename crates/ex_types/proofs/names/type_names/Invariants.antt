use Rattle.std.proofs.Common.{◌≡◌, ◌++◌, map, drop}
use Rattle.ex_types.specs.Checked as spec
use Rattle.ex_types.proofs.names.type_names.Given as goal

abbrev pub invariant-loop-declaration : goal.invariant-loop-declaration
invariant-loop-declaration l = map (λ n. n.now) l.names.items ++ spec.type_names (drop l.declaration-index l.types) ≡ spec.type_names l.types
