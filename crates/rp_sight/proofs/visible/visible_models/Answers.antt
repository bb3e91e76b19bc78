use Rattle.std.proofs.Common.{◌<◌, false, length, arith, sym, ◌∙◌, ap, subst}
use Rattle.std.proofs.lemmas.List.{get_or_default, length-map}
use Rattle.rp_sight.specs.Stored.{row_of}
use Rattle.rp_sight.specs.Seen.{level_by}
use Rattle.rp_sight.specs.Granted.{granted_of, counts_in_any}
use Rattle.rp_sight.specs.Seen.{seen_of}
use Rattle.std.specs.Prelude.{map}
use Rattle.rp_sight.proofs.Seeing.{level_marked, seen_more}
use Rattle.rp_sight.proofs.visible.visible_models.Goals as goal

pub loop-place-preserved : goal.loop-place-preserved
loop-place-preserved c =
    let who = c.args.caller.now in
    let gs = c.args.groups.now.rows in
    let ms = c.args.models.now.rows in
    let m = row_of c.row.result in
    let es = granted_of who c.args.groups.now.names in
    let t = c.has-counted.result in
    let within : c.loop-place.place < length ms = omega (arith, c.loop-place-test.true, c.len-place-end.ensures.len) in
    let marked : c.loop-place.place < length c.in_ok-marks.marks = subst (λ n. c.loop-place.place < n) (sym (ap length c.in_ok-marks.ensures.marks ∙ length-map ms (counts_in_any who gs es))) within in
    let right = level_marked who gs es ms c.in_ok-marks.marks c.loop-place.place m t c.in_ok-marks.ensures.order c.in_ok-marks.ensures.whole c.in_ok-marks.ensures.marks within c.row.ensures (c.has-counted.ensures ∙ get_or_default c.in_ok-marks.marks c.loop-place.place false t marked) in
    seen_more who gs ms c.loop-place.place m (level_by who m t) (map seen_of c.loop-place.seen.items) (map seen_of c.push_model.new.seen.items) within c.row.ensures right c.loop-place.invariant c.in_ok-push_model.ensures
