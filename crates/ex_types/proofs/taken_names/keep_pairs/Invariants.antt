use Rattle.std.proofs.Common.{◌≡◌}
use Rattle.ex_types.proofs.taken_names.keep_pairs.Given as goal

abbrev pub invariant-loop : goal.invariant-loop
invariant-loop l = l.known ≡ l.initial.known

abbrev pub invariant-loop-first : goal.invariant-loop-first
invariant-loop-first l = l.known ≡ l.initial.known
