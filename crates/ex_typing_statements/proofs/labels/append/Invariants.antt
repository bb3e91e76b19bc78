use Rattle.std.proofs.Common.{◌≡◌, ◌++◌}
use Rattle.ex_typing_statements.proofs.labels.append.Given as goal

abbrev pub invariant-loop-kinds : goal.invariant-loop-kinds
invariant-loop-kinds l = l.labels ≡ l.initial.labels ++ l.yielded
