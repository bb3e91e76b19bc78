use Rattle.std.proofs.Common.{◌≡◌, ◌<◌, ◌*◌, ◌^◌}
use Rattle.rp_numbers.proofs.whole.without_zeros.Given as goal

abbrev pub invariant-zeros : goal.invariant-zeros
invariant-zeros l = (l.rest * 10 ^ l.zeros ≡ l.number) × (0 < l.rest)

abbrev pub decreases-zeros : goal.decreases-zeros
decreases-zeros l = l.rest
