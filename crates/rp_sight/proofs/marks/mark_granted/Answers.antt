use Rattle.std.proofs.Common.{sym}
use Rattle.std.specs.Prelude.{Bool}
use Rattle.rp_rows.specs.Rows.{Model}
use Rattle.rp_sight.specs.Granted.{Names, counts_under}
use Rattle.rp_sight.proofs.Marking.{turn, done}
use Rattle.rp_sight.proofs.marks.mark_granted.Goals as goal

pub loop-names-preserved : goal.loop-names-preserved
loop-names-preserved c =
    let t : Names → Model → Bool = λ e m. counts_under c.args.caller.now c.args.groups.now.rows e m in
    turn t c.args.models.now.rows c.args.marks.now c.loop-names.marks c.mark_names.new.marks c.args.granted.now c.loop-names.names-index c.names-item.result c.loop-names.invariant c.loop-names-test.true (sym c.names-item.is) c.in_ok-mark_names.ensures

pub returns : goal.returns
returns c =
    let t : Names → Model → Bool = λ e m. counts_under c.args.caller.now c.args.groups.now.rows e m in
    done t c.args.models.now.rows c.args.marks.now c.loop-names.marks c.args.granted.now c.loop-names.names-index c.loop-names.invariant c.loop-names-test.false
