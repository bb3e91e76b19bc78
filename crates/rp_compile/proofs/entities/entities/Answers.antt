use Rattle.std.proofs.Common.{◌∙◌}
use Rattle.rp_compile.proofs.Rederived.{next-entity, put-made}
use Rattle.rp_compile.proofs.entities.entities.Goals as goal

pub loop-number-preserved : goal.loop-number-preserved
loop-number-preserved c =
    let found = c.loop-number.found in
    let after = c.push_made.new.others in
    next-entity c.args.schema.now c.args.schema_name.now c.args.rederived.now c.args.list.now c.loop-number.number c.index-list-number.result c.rederived_of-rederived.result.now found after
    c.loop-number-test.true c.index-list-number.is c.rederived_of-rederived.ensures (put-made found after _ _ c.entity-compiled.ensures c.in_ok-push_made.ensures)
    ∙ c.loop-number.invariant
