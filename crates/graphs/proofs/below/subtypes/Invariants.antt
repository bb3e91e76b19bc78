use Rattle.std.proofs.Common.{◌≡◌, ℕ, ◌&&◌, nat_lt, length}
use Rattle.plain_data.specs.Numbers.{is_among}
use Rattle.graphs.specs.Graphs as spec
use Rattle.graphs.proofs.below.subtypes.Given as goal

abbrev pub invariant-loop-member : goal.invariant-loop-member
invariant-loop-member l = record {
  count : length l.below.items ≡ length l.graph;
  turned : (d e : ℕ) → is_among (spec.supertypes l.below.items d) e ≡ (nat_lt d (length l.graph) && (is_among (spec.supertypes l.graph e) d && nat_lt e l.member));
}
