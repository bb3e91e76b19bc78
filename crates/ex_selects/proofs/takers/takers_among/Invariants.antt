use Rattle.std.proofs.Common.{take}
use Rattle.ex_selects.specs.Takers.{AreTakers}
use Rattle.ex_selects.proofs.takers.takers_among.Given as goal

abbrev pub invariant-loop-number : goal.invariant-loop-number
invariant-loop-number l = AreTakers l.types (take l.number-index l.numbers) l.takers
