use Rattle.std.proofs.Common.{take}
use Rattle.rp_index.specs.Pairs.{HasAll, Grows}
use Rattle.rp_index.specs.Index.{has, IsInOrder}
use Rattle.rp_index.proofs.pairs.Pairs.insert_all.Given as goal

abbrev pub invariant-loop-pair : goal.invariant-loop-pair
invariant-loop-pair l = record {
  grows : Grows (has l.initial.self) (has l.self);
  has : HasAll (has l.self) (take l.pair-index l.pairs);
  order : IsInOrder l.initial.self → IsInOrder l.self;
}
