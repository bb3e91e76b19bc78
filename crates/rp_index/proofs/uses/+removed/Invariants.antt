use Rattle.rp_index.specs.Pairs.{KeepsOthers}
use Rattle.rp_index.specs.Index.{has, IsInOrder}
use Rattle.rp_index.proofs.uses.+removed.Given as goal

abbrev pub invariant-remove_values-loop-value : goal.invariant-remove_values-loop-value
invariant-remove_values-loop-value l = record {
  keeps : KeepsOthers l.user (has l.initial.uses) (has l.uses);
  order : IsInOrder l.initial.uses → IsInOrder l.uses;
}
