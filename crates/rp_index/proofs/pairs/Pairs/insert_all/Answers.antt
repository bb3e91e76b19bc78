use Rattle.std.proofs.Common.{◌<◌, length, take, arith}
use Rattle.rp_index.specs.Pairs.{has_pair}
use Rattle.rp_index.proofs.Tests.{or_right, inserted, beside, grown, has_more}
use Rattle.rp_index.proofs.pairs.Pairs.insert_all.Goals as goal

pub loop-pair-preserved : goal.loop-pair-preserved
loop-pair-preserved c =
    let pairs = c.args.pairs.now in
    let k = c.loop-pair.pair-index in
    let settled = has_pair c.loop-pair.self.settled.items in
    let former = has_pair c.loop-pair.self.fresh.keys in
    let later = has_pair c.insert.new.self.keys in
    let within : k < length pairs = omega (arith, c.loop-pair-test.true) in
    let up = beside settled former later (inserted _ former later c.in_ok-insert.ensures.updates.0) in
    record {
      grows = λ q e. up q (c.loop-pair.invariant.grows q e);
      has = has_more _ pairs k _ within (grown _ _ (take k pairs) up c.loop-pair.invariant.has) (or_right _ _ c.in_ok-insert.ensures.updates.1);
      order = c.loop-pair.invariant.order;
    }
