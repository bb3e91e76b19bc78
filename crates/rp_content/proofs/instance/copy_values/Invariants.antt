use Rattle.std.proofs.Common.{◌≡◌, take}
use Rattle.rp_content.proofs.instance.copy_values.Given as goal

abbrev pub invariant-loop-value : goal.invariant-loop-value
invariant-loop-value l = l.copies ≡ take l.value-index l.values
