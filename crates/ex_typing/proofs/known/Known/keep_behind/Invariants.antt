use Rattle.std.proofs.Common.{◌≡◌}
use Rattle.ex_typing.proofs.known.Known.keep_behind.Given as goal

abbrev pub invariant-loop-kinds : goal.invariant-loop-kinds
invariant-loop-kinds l = l.self ≡ l.initial.self
