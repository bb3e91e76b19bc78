use Rattle.std.proofs.Common.{◌≡◌, ◌++◌, drop}
use Rattle.ex_operators.proofs.ruling.with_more.Given as goal

abbrev pub invariant-loop-kind : goal.invariant-loop-kind
invariant-loop-kind l = l.all ++ drop l.kind-index l.more ≡ l.fn.kinds ++ l.more
