use Rattle.std.proofs.Common.{◌<◌, length, arith}
use Rattle.rp_index.specs.Index.{is_under}
use Rattle.rp_index.proofs.Tests.{grown, mapped_more}
use Rattle.rp_index.proofs.kinds.enter_each.Goals as goal

pub loop-entity-preserved : goal.loop-entity-preserved
loop-entity-preserved c =
    let entities = c.args.entities.now in
    let k = c.loop-entity.entity-index in
    let former = is_under c.loop-entity.kinds.items in
    let later = is_under c.enter.new.kinds.items in
    let within : k < length entities = omega (arith, c.loop-entity-test.true) in
    record {
      grows = λ q e. c.in_ok-enter.ensures.grows q (c.loop-entity.invariant.grows q e);
      has = mapped_more later _ entities k _ within (grown former later _ c.in_ok-enter.ensures.grows c.loop-entity.invariant.has) c.in_ok-enter.ensures.has;
    }
