use Rattle.std.proofs.Common.{◌≡◌, ◌&&◌, ◌||◌, ℕ, nat_lt, length}
use Rattle.plain_data.specs.Numbers.{is_among}
use Rattle.graphs.specs.Graphs.{supertypes}
use Rattle.ex_subtypes.proofs.graph.all_joined.Given as goal

abbrev pub invariant-loop-place : goal.invariant-loop-place
invariant-loop-place l = record {
  many : length l.both.items ≡ l.place;
  both : (e n : ℕ) → is_among (supertypes l.both.items e) n ≡ (nat_lt e l.place && (is_among (supertypes l.one e) n || is_among (supertypes l.other e) n));
}
