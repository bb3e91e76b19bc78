use Rattle.rp_index.specs.Index.{is_under}
use Rattle.rp_index.specs.Pairs.{KeepsOthers}
use Rattle.rp_index.proofs.kinds.remove_each.Given as goal

abbrev pub invariant-loop-entity : goal.invariant-loop-entity
invariant-loop-entity l = KeepsOthers l.name (is_under l.initial.kinds.items) (is_under l.kinds.items)
