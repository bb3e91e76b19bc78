use Rattle.std.proofs.Common.{sym, ◌∙◌, add-one}
use Rattle.rp_meaning.specs.Populations.{as_read}
use Rattle.rp_eval_parts.proofs.Found.{value-hit, value-miss}
use Rattle.rp_eval_parts.proofs.attributes.value_in.Goals as goal

pub returns-then-same_attribute : goal.returns-then-same_attribute
returns-then-same_attribute c =
    let read = as_read c.args.differing.now c.args.written.now in
    let hit = value-hit c.args.attribute.now _ c.args.attributes.now c.args.written.now read c.loop-place.place c.loop-place-test.true (sym c.same_attribute.ensures ∙ c.if-same_attribute.true) in
    c.read_at.ensures ∙ (sym hit ∙ c.loop-place.invariant)

pub loop-place-preserved : goal.loop-place-preserved
loop-place-preserved c =
    let read = as_read c.args.differing.now c.args.written.now in
    let miss = value-miss c.args.attribute.now _ c.args.attributes.now c.args.written.now read c.loop-place.place c.loop-place-test.true (sym c.same_attribute.ensures ∙ c.if-same_attribute.false) in
    rw add-one (sym miss ∙ c.loop-place.invariant)
