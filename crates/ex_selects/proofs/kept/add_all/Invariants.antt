use Rattle.std.proofs.Common.{◌≡◌, ℕ, ◌||◌, drop}
use Rattle.plain_data.specs.Numbers.{is_among}
use Rattle.ex_selects.proofs.kept.add_all.Given as goal

abbrev pub invariant-loop-number : goal.invariant-loop-number
invariant-loop-number l =
    (k : ℕ) → (is_among l.found.keys k || is_among (drop l.number-index l.numbers) k) ≡ (is_among l.fn.found.keys k || is_among l.numbers k)
