use Rattle.std.proofs.Common.{◌≡◌, ◌++◌, take}
use Rattle.rp_operations.proofs.operations.append.Given as goal

abbrev pub invariant-loop-value : goal.invariant-loop-value
invariant-loop-value l = l.found ≡ l.initial.found ++ take l.value-index l.values
