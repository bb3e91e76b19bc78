use Rattle.std.proofs.Common.{◌≡◌, ◌++◌, drop}
use Rattle.rp_operators.specs.Naming.{texts_at}
use Rattle.rp_operators.proofs.naming.push_numbers.Given as goal

abbrev pub invariant-loop-number : goal.invariant-loop-number
invariant-loop-number l = l.found ++ texts_at l.texts (drop l.number-index l.numbers) ≡ l.initial.found ++ texts_at l.texts l.numbers
