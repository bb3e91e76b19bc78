use Rattle.std.proofs.Common.{◌≡◌, ℕ, ◌||◌, drop}
use Rattle.plain_data.specs.Numbers.{is_among}
use Rattle.ex_operators.proofs.possibilities.set_of.Given as goal

abbrev pub invariant-loop-number : goal.invariant-loop-number
invariant-loop-number l = (k : ℕ) → (is_among l.set.keys k || is_among (drop l.number-index l.numbers) k) ≡ is_among l.numbers k
