use Rattle.std.proofs.Common.{◌≡◌, sym, ◌∙◌, ap}
use Rattle.std.specs.List.{find}
use Rattle.rp_rows.specs.declared.rows.Key.{Key}
use Rattle.rp_rows.specs.Rows.{Text, Model, is_row, key_of}
use Rattle.std.specs.Prelude.{Bool}
use Rattle.rp_sight.specs.Granted.{shows}
use Rattle.rp_sight.specs.Kept.{marked}
use Rattle.rp_sight.proofs.Marking.{any_of, turn, done}
use Rattle.rp_sight.proofs.marks.mark_names.Goals as goal

pub loop-name-preserved : goal.loop-name-preserved
loop-name-preserved c =
    let t : Text → Model → Bool = λ n m. shows c.args.caller.now m (find (is_row (key_of c.args.names.now.key.name n)) c.args.groups.now.rows) in
    let is : c.mark_at.new.marks ≡ marked (t c.name-item.result) c.loop-name.marks c.args.models.now.rows =
    c.in_ok-mark_at.ensures ∙ ap (λ (k : Key). marked (λ m. shows c.args.caller.now m (find (is_row (key_of k.name c.name-item.result)) c.args.groups.now.rows)) c.loop-name.marks c.args.models.now.rows) c.get.ensures in
    turn t c.args.models.now.rows c.args.marks.now c.loop-name.marks c.mark_at.new.marks c.as_slice-name-items.result.now c.loop-name.name-index c.name-item.result c.loop-name.invariant c.loop-name-test.true (sym c.name-item.is) is

pub returns : goal.returns
returns c =
    let t : Text → Model → Bool = λ n m. shows c.args.caller.now m (find (is_row (key_of c.args.names.now.key.name n)) c.args.groups.now.rows) in
    let ms = c.args.models.now.rows in
    let ts = c.args.marks.now in
    done t ms ts c.loop-name.marks c.as_slice-name-items.result.now c.loop-name.name-index c.loop-name.invariant c.loop-name-test.false
    ∙ ap (λ ns. marked (any_of t ns) ts ms) c.as_slice-name-items.ensures
