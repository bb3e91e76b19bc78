use Rattle.std.proofs.Common.{◌≡◌, replicate}
use Rattle.rp_domain.proofs.chains.no_ends.Given as goal

abbrev pub invariant-loop-at : goal.invariant-loop-at
invariant-loop-at l = l.ends.items ≡ replicate l.at 0
