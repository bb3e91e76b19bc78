use Rattle.std.proofs.Common.{◌≡◌, ◌||◌, ℕ, true, drop}
use Rattle.plain_data.specs.Numbers.{is_among}
use Rattle.rp_index.specs.Index.{is_under}
use Rattle.rp_population.specs.Candidates.{may_have}
use Rattle.rp_population.proofs.extents.Extent.names_in.Given as goal

abbrev pub invariant-loop-kind : goal.invariant-loop-kind
invariant-loop-kind l = record {
  same : l.self ≡ l.initial.self;
  found : (q : ℕ × ℕ) → may_have l.initial.self.schema l.initial.self.entity q.0 ≡ true → is_under l.kinds q ≡ true → (is_under (drop l.kind-index l.kinds) q || is_among l.names.items q.1) ≡ true;
}
