use Rattle.std.proofs.Common.{◌∙◌}
use Rattle.rp_sight.specs.Stored.{row_of}
use Rattle.rp_sight.specs.Granted.{granted_of}
use Rattle.rp_sight.proofs.Seeing.{counted_known, counted_told}
use Rattle.rp_sight.proofs.levels.is_counted.Goals as goal

pub returns-then-is_granted_fewer : goal.returns-then-is_granted_fewer
returns-then-is_granted_fewer c =
    let gs = c.args.groups.now.rows in
    let who = c.args.caller.now in
    let w = c.counts_in_granted.ensures in
    w.counts ∙ counted_known who (row_of c.args.model.now) c.requires.apart c.requires.none gs (granted_of who c.args.groups.now.names) w.order w.whole

pub returns-else-is_granted_fewer : goal.returns-else-is_granted_fewer
returns-else-is_granted_fewer c =
    let w = c.counts_in_listers.ensures in
    w.counts ∙ counted_told c.args.caller.now (row_of c.args.model.now) c.requires.apart c.requires.none c.args.groups.now.rows c.args.groups.now.listers w.order w.whole
