use Rattle.std.proofs.Common.{take}
use Rattle.ex_selects.specs.Kept.{StandFor}
use Rattle.ex_selects.proofs.kept.thinned.Given as goal

abbrev pub invariant-loop-number : goal.invariant-loop-number
invariant-loop-number l = StandFor l.sorts (take l.number-index l.numbers) l.kept
