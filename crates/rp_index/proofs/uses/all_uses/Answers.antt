use Rattle.std.proofs.Common.{◌≡◌, ◌<◌, ◌++◌, ◌∙◌, ℕ, length, map, ap, arith}
use Rattle.std.specs.List.{flat_map}
use Rattle.rp_rows.specs.Contents.{references}
use Rattle.rp_index.specs.Index.{uses_of}
use Rattle.rp_index.proofs.Tests.{pushed_more}
use Rattle.rp_index.proofs.uses.all_uses.Goals as goal

pub loop-instance-preserved : goal.loop-instance-preserved
loop-instance-preserved c =
    let instances = c.args.instances.now in
    let k = c.loop-instance.instance-index in
    let i = c.instance-item.result in
    let found = c.loop-instance.found.items in
    let more = c.push_values.new.found.items in
    let within : k < length instances = omega (arith, c.loop-instance-test.true) in
    let own : more ≡ found ++ uses_of i =
    c.in_ok-push_values.ensures ∙ ap (λ vs. found ++ map (λ (n : ℕ). (n, i.name)) (flat_map references vs)) c.as_slice.ensures in
    pushed_more uses_of instances k i found more (flat_map uses_of instances) within c.instance-item.is own c.loop-instance.invariant
