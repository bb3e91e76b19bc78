use Rattle.std.proofs.Common.{◌≡◌, ◌||◌, true, ℕ}
use Rattle.plain_data.specs.Numbers.{is_among}
use Rattle.rp_index.specs.Index.{has, IsInOrder}
use Rattle.rp_index.proofs.pairs.all_seconds_of.Given as goal

abbrev pub invariant-loop-first : goal.invariant-loop-first
invariant-loop-first l = IsInOrder l.pairs → (n u : ℕ) → is_among l.firsts.keys n ≡ true → has l.pairs (n, u) ≡ true → (is_among l.first-iterator n || is_among l.found.items u) ≡ true
