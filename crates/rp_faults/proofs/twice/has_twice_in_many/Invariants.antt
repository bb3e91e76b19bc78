use Rattle.std.proofs.Common.{◌≡◌, ◌<◌, [], length, take, drop}
use Rattle.rp_operations.specs.Operations.{set_union}
use Rattle.rp_faults.specs.Buckets.{Holds}
use Rattle.rp_faults.specs.Keys.{key_of}
use Rattle.rp_faults.proofs.twice.has_twice_in_many.Given as goal

abbrev pub invariant-loop-item : goal.invariant-loop-item
invariant-loop-item l = record {
  same : set_union (take l.item-index l.items) (drop l.item-index l.items) ≡ set_union [] l.items;
  room : 0 < length l.before;
  held : Holds key_of l.before (take l.item-index l.items);
}
