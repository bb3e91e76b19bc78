use Rattle.std.proofs.Common.{◌≡◌, ◌+◌, [], ◌∷◌, ◌++◌, take, sym}
use Rattle.rp_faults.proofs.Bucketed.{holds-more, room-more}
use Rattle.rp_faults.proofs.Repeated.{take-read}
use Rattle.rp_rules.specs.Buckets.{key_of_row}
use Rattle.rp_rules.proofs.buckets.in_buckets.Goals as goal

pub loop-row-preserved : goal.loop-row-preserved
loop-row-preserved c =
    let rows = c.args.rows.now in
    let i = c.loop-row.row-index in
    let row = c.row-item.result in
    let more : take i rows ++ row ∷ [] ≡ take (i + 1) rows = sym (take-read rows i row c.loop-row-test.true c.row-item.is) in
    record {
      room = room-more c.loop-row.made c.put.new.self c.key.result _ c.in_ok-put.ensures c.loop-row.invariant.room;
      held = holds-more key_of_row c.loop-row.made c.put.new.self c.key.result _ (take i rows) (take (i + 1) rows) c.in_ok-put.ensures c.key.ensures c.loop-row.invariant.room c.loop-row.invariant.held more;
    }
