use Rattle.std.proofs.Common.{◌≡◌, ◌&&◌, ℕ, nat_lt, length}
use Rattle.plain_data.specs.Numbers.{is_among}
use Rattle.graphs.specs.Graphs.{supertypes}
use Rattle.ex_subtypes.specs.Edges.{one_stands_at}
use Rattle.ex_subtypes.specs.Legal as spec
use Rattle.ex_subtypes.proofs.graph.steps_up.Given as goal

abbrev pub invariant-loop-place : goal.invariant-loop-place
invariant-loop-place l = record {
  many : length l.up.items ≡ l.place;
  up : (e n : ℕ) → is_among (supertypes l.up.items e) n ≡ (nat_lt e l.place && one_stands_at l.set (supertypes (spec.graph l.entities) (spec.member l.set e)) n);
}
