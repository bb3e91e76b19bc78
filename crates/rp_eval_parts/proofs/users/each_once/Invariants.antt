use Rattle.std.proofs.Common.{◌≡◌, ◌++◌, drop, None}
use Rattle.rp_eval_parts.specs.Counts as counts
use Rattle.rp_eval_parts.proofs.users.each_once.Given as goal

abbrev pub invariant-loop-user : goal.invariant-loop-user
invariant-loop-user l = l.found ++ counts.once_after l.last (drop l.user-index l.users) ≡ counts.once_after None l.users
