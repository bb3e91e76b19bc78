use Rattle.std.specs.BTreeMap.{get}
use Rattle.std.specs.Ordering.{nat_cmp}
use Rattle.ex_subtypes.proofs.Entries.{entry_next}
use Rattle.ex_subtypes.proofs.places.table_of.Goals as goal

pub loop-place-preserved : goal.loop-place-preserved
loop-place-preserved c = λ n k.
    entry_next c.args.named.now c.requires c.loop-place.place c.loop-place-test.true n k (get nat_cmp c.loop-place.table n) (get nat_cmp c.insert.new.self n)
    (c.in_ok-insert.ensures.updates.0 n) (c.loop-place.invariant n k)
