use Rattle.std.proofs.Common.{◌≡◌, ℕ, None, length}
use Rattle.ex_selects.specs.Kept.{kept_in}
use Rattle.ex_selects.proofs.kept.nothing_kept.Given as goal

abbrev pub invariant-loop : goal.invariant-loop
invariant-loop l = record {
  many : length l.all.items ≡ l.counter;
  nothing : (n : ℕ) → kept_in l.all.items n ≡ None;
}
