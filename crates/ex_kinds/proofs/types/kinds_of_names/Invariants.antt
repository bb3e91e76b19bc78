use Rattle.std.proofs.Common.{◌≡◌, ◌++◌, drop, map}
use Rattle.ex_kinds.specs.Kinds as spec
use Rattle.ex_kinds.proofs.types.kinds_of_names.Given as goal

abbrev pub invariant-loop-name : goal.invariant-loop-name
invariant-loop-name l = l.kinds ++ map spec.of_name (drop l.name-index l.names) ≡ map spec.of_name l.names
