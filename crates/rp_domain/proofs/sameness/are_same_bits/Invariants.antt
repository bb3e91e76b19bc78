use Rattle.std.proofs.Common.{◌≡◌, take}
use Rattle.rp_domain.proofs.sameness.are_same_bits.Given as goal

abbrev pub invariant-loop-at : goal.invariant-loop-at
invariant-loop-at l = take l.at l.bits ≡ take l.at l.others
