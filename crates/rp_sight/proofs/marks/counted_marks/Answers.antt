use Rattle.std.proofs.Common.{false, map, replicate, ◌∙◌, ap}
use Rattle.std.specs.Prelude.{Bool, List}
use Rattle.rp_rows.specs.Rows.{Text, Model, GroupRow}
use Rattle.rp_sight.specs.Granted.{Names, counts_under}
use Rattle.rp_sight.specs.Kept.{marked}
use Rattle.rp_sight.proofs.Marking.{any_of, long_still, marked_in_two}
use Rattle.rp_sight.proofs.marks.counted_marks.Goals as goal

abbrev marks_of : Text → List GroupRow → List Names → List Bool → List Model → List Bool
marks_of c gs es = marked (any_of (λ e m. counts_under c gs e m) es)

pub mark_granted-requires-2 : goal.mark_granted-requires-2
mark_granted-requires-2 c =
    let t : Names → Model → Bool = λ e m. counts_under c.args.caller.now c.table-table.result.rows e m in
    let ms = c.args.models.now.rows in
    long_still (any_of t c.granted_to.result.0.now) ms c.none-marks.result c.mark_granted.new.marks (c.none-marks.ensures ∙ ap (λ n. replicate n false) c.len.ensures.len) c.in_ok-mark_granted.ensures

pub returns-clause-marks : goal.returns-clause-marks
returns-clause-marks c =
    let who = c.args.caller.now in
    let gs = c.args.groups.now.rows in
    let t : Names → Model → Bool = λ e m. counts_under who gs e m in
    let ms = c.args.models.now.rows in
    let front = c.granted_to.result.0.now in
    let back = c.granted_to.result.1.now in
    let first = c.in_ok-mark_granted.ensures ∙ ap (λ rows. marks_of who rows front c.none-marks.result ms) c.table-table.ensures in
    let second = c.in_ok-mark_granted-2.ensures ∙ ap (λ rows. marks_of who rows back c.mark_granted.new.marks ms) c.table-table.ensures in
    second
    ∙ ap (λ ts. marked (any_of t back) ts ms) first
    ∙ marked_in_two t ms c.none-marks.result front back (c.none-marks.ensures ∙ ap (λ n. replicate n false) c.len.ensures.len)
    ∙ ap (λ es. map (any_of t es) ms) c.granted_to.ensures.are
