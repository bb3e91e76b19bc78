use Rattle.std.proofs.Common.{◌≡◌, take}
use Rattle.rp_domain.proofs.sameness.+sameness.Given as goal

abbrev pub invariant-are_same-loop-at : goal.invariant-are_same-loop-at
invariant-are_same-loop-at l = take l.at l.values ≡ take l.at l.others
