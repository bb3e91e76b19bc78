use Rattle.std.proofs.Common.{◌≡◌}
use Rattle.ex_types.proofs.taken_names.keep_taken.Given as goal

abbrev pub invariant-loop-name : goal.invariant-loop-name
invariant-loop-name l = l.known ≡ l.initial.known
