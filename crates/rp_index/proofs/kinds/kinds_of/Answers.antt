use Rattle.std.proofs.Common.{◌<◌, length, take, arith}
use Rattle.std.specs.List.{flat_map}
use Rattle.rp_index.specs.Index.{is_under, kinds_of}
use Rattle.rp_index.proofs.Tests.{grown, flat_more}
use Rattle.rp_index.proofs.kinds.kinds_of.Goals as goal

pub loop-instance-preserved : goal.loop-instance-preserved
loop-instance-preserved c =
    let instances = c.args.instances.now in
    let k = c.loop-instance.instance-index in
    let former = is_under c.loop-instance.kinds.items in
    let later = is_under c.enter_kinds.new.kinds.items in
    let within : k < length instances = omega (arith, c.loop-instance-test.true) in
    flat_more later kinds_of instances k c.instance-item.result within c.instance-item.is
    (grown former later (flat_map kinds_of (take k instances)) c.in_ok-enter_kinds.ensures.grows c.loop-instance.invariant) c.in_ok-enter_kinds.ensures.has
