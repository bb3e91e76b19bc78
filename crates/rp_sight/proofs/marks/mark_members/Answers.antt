use Rattle.std.proofs.Common.{sym, ◌∙◌, ap}
use Rattle.rp_sight.specs.Listed.{fits}
use Rattle.rp_sight.specs.Stored.{row_of}
use Rattle.rp_sight.specs.Kept.{marked}
use Rattle.rp_sight.proofs.Marking.{at_key, any_of, turn, done, marks_members}
use Rattle.rp_sight.proofs.marks.mark_members.Goals as goal

pub loop-key-preserved : goal.loop-key-preserved
loop-key-preserved c =
    let g = row_of c.args.group.now in
    let ks = c.as_slice-key-items.result.now in
    turn (λ k. at_key k (fits g)) c.args.models.now.rows c.args.marks.now c.loop-key.marks c.mark.new.marks ks c.loop-key.key-index c.key-item.result c.loop-key.invariant c.loop-key-test.true (sym c.key-item.is) c.in_ok-near.ensures

pub returns : goal.returns
returns c =
    let g = row_of c.args.group.now in
    let ms = c.args.models.now.rows in
    let ts = c.args.marks.now in
    done (λ k. at_key k (fits g)) ms ts c.loop-key.marks c.as_slice-key-items.result.now c.loop-key.key-index c.loop-key.invariant c.loop-key-test.false
    ∙ ap (λ ks. marked (any_of (λ k. at_key k (fits g)) ks) ts ms) c.as_slice-key-items.ensures
    ∙ marks_members g ts ms
