use Rattle.std.proofs.Common.{◌≡◌, drop, None}
use Rattle.rp_eval_parts.specs.Counts as counts
use Rattle.rp_eval_parts.proofs.users.any_again.Given as goal

abbrev pub invariant-loop-user : goal.invariant-loop-user
invariant-loop-user l = counts.again_after l.last (drop l.user-index l.users) ≡ counts.again_after None l.users
