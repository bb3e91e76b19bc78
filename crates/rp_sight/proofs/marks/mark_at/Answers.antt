use Rattle.std.proofs.Common.{true, false, sym, ◌∙◌}
use Rattle.std.specs.List.{find}
use Rattle.rp_rows.specs.Rows.{is_row, key_of}
use Rattle.rp_sight.specs.Stored.{row_of}
use Rattle.rp_sight.proofs.Marking.{shown_marks, no_marks, false_marks, on_ok}
use Rattle.rp_sight.proofs.marks.mark_at.Goals as goal

pub returns-then-is_granted : goal.returns-then-is_granted
returns-then-is_granted c =
    let o = find (is_row (key_of c.args.owner.now c.args.name.now)) c.args.groups.now.rows in
    on_ok c.mark_members.result c.mark_members.ensures (λ e. e
    ∙ sym (shown_marks c.args.caller.now o (row_of c.in-Some.group) true c.args.marks.now c.args.models.now.rows (sym c.in-Some.ensures.found) (sym c.if-is_granted.ensures)))

pub returns-else-is_granted : goal.returns-else-is_granted
returns-else-is_granted c =
    let o = find (is_row (key_of c.args.owner.now c.args.name.now)) c.args.groups.now.rows in
    let g = row_of c.in-Some.group in
    sym (shown_marks c.args.caller.now o g false c.args.marks.now c.args.models.now.rows (sym c.in-Some.ensures.found) (sym c.if-is_granted.ensures)
    ∙ false_marks g c.args.marks.now c.args.models.now.rows)

pub returns-in_default : goal.returns-in_default
returns-in_default c =
    no_marks c.args.caller.now (find (is_row (key_of c.args.owner.now c.args.name.now)) c.args.groups.now.rows) c.args.marks.now c.args.models.now.rows (sym c.in_default.ensures.found)
