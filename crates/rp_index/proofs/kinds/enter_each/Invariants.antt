use Rattle.std.proofs.Common.{ℕ, map, take}
use Rattle.rp_index.specs.Index.{is_under}
use Rattle.rp_index.specs.Pairs.{HasAll, Grows}
use Rattle.rp_index.proofs.kinds.enter_each.Given as goal

abbrev pub invariant-loop-entity : goal.invariant-loop-entity
invariant-loop-entity l = record {
  grows : Grows (is_under l.initial.kinds.items) (is_under l.kinds.items);
  has : HasAll (is_under l.kinds.items) (map (λ (e : ℕ). (e, l.name)) (take l.entity-index l.entities));
}
