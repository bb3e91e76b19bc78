use Rattle.std.proofs.Common.{◌≡◌, ◌<◌, ◌+◌, ◌++◌, ◌∙◌, length, drop, ap, arith, subst}
use Rattle.rp_population.specs.Found.{all_slots}
use Rattle.rp_population.proofs.Using.{told_of, told_of_more}
use Rattle.rp_population.proofs.attribute.push_records.Goals as goal

pub loop-slots-preserved : goal.loop-slots-preserved
loop-slots-preserved c =
    let user = c.args.user.now in
    let a = c.args.attribute.now in
    let records = c.args.records.now in
    let k = c.loop-slots.slots-index in
    let ss = c.slots-item.result in
    let left = c.loop-slots.left.now in
    let more = c.push_slots.new.found.items in
    let within : k < length records = omega (arith, c.loop-slots-test.true) in
    let own = c.in_ok-push_slots.ensures ∙ ap (λ xs. c.loop-slots.found.items ++ told_of user a xs left) c.as_slice.ensures in
    ap (λ vs. more ++ told_of user a (all_slots (drop (k + 1) records)) vs) (c.behind-left.ensures ∙ ap (λ n. drop n left) c.len.ensures)
    ∙ told_of_more user a records k ss left c.loop-slots.found.items more _ within c.slots-item.is own c.loop-slots.invariant
