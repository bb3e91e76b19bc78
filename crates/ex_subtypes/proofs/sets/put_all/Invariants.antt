use Rattle.std.proofs.Common.{◌≡◌, ◌||◌, ℕ, drop}
use Rattle.plain_data.specs.Numbers.{is_among}
use Rattle.ex_subtypes.proofs.sets.put_all.Given as goal

abbrev pub invariant-loop-number : goal.invariant-loop-number
invariant-loop-number l = (n : ℕ) → (is_among l.found.keys n || is_among (drop l.number-index l.numbers) n) ≡ (is_among l.initial.found.keys n || is_among l.numbers n)
