use Rattle.std.proofs.Common.{◌≡◌, ◌++◌, map, drop}
use Rattle.ex_types.specs.Declarations as spec
use Rattle.ex_types.proofs.known.signatures.Given as goal

abbrev pub invariant-loop-function : goal.invariant-loop-function
invariant-loop-function l = l.found ++ map spec.signature (drop l.function-index l.functions) ≡ map spec.signature l.functions
