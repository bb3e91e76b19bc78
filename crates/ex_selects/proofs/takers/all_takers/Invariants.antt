use Rattle.std.proofs.Common.{◌≡◌, ℕ, length}
use Rattle.ex_selects.specs.Kept.{kept_in}
use Rattle.ex_selects.specs.Takers.{AreTakersAt, takers_in}
use Rattle.ex_selects.proofs.takers.all_takers.Given as goal

abbrev pub invariant-loop-numbers : goal.invariant-loop-numbers
invariant-loop-numbers l = record {
  many : length l.all.items ≡ l.numbers-index;
  each : (n : ℕ) → AreTakersAt l.types (kept_in l.kept n) (takers_in l.all.items n);
}
