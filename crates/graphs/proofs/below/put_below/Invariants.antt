use Rattle.std.proofs.Common.{◌≡◌, ℕ, ◌==◌, ◌&&◌, ◌||◌, nat_lt, length, drop}
use Rattle.plain_data.specs.Numbers.{is_among}
use Rattle.graphs.specs.Graphs as spec
use Rattle.graphs.proofs.below.put_below.Given as goal

abbrev pub invariant-loop-above : goal.invariant-loop-above
invariant-loop-above l = record {
  count : length l.below.items ≡ length l.initial.below.items;
  left : (d e : ℕ) → (is_among (spec.supertypes l.below.items d) e || (nat_lt d (length l.initial.below.items) && (is_among (drop l.above-index l.supertypes) d && (l.member == e))))
      ≡ (is_among (spec.supertypes l.initial.below.items d) e || (nat_lt d (length l.initial.below.items) && (is_among l.supertypes d && (l.member == e))));
}
