use Rattle.std.proofs.Common.{sym, ◌∙◌, arith}
use Rattle.rp_rules.proofs.Agreements.{agreeing-step, agrees-with, as-many-values}
use Rattle.rp_rules.proofs.buckets.agreeing.Goals as goal

pub loop-row-preserved : goal.loop-row-preserved
loop-row-preserved c =
    let rows = c.args.rows.now in
    let row = c.row-item.result in
    let many = as-many-values c.args.count rows c.loop-row.row-index row (omega arith) c.row-item.is c.requires in
    let among = agrees-with c.args.count row rows c.in_ok-made.made many c.requires c.in_ok-made.ensures in
    let is = (rw (c.sharing.ensures, c.key.ensures) at c.agrees_with_one-is_one.ensures) ∙ among in
    let step = agreeing-step rows c.loop-row.found c.loop-row.row-index row c.agrees_with_one-is_one.result (omega arith) c.row-item.is is in
    rw (c.in_ok-push_if.ensures, c.culprit.ensures) (sym step ∙ c.loop-row.invariant)
