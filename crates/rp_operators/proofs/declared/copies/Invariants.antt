use Rattle.std.proofs.Common.{◌≡◌, take}
use Rattle.rp_operators.proofs.declared.copies.Given as goal

abbrev pub invariant-loop-value : goal.invariant-loop-value
invariant-loop-value l = l.found ≡ take l.value-index l.values
