use Rattle.std.proofs.Common.{◌∙◌, sym, arith, rules}
use Rattle.rp_domain.specs.Chains.{rows}
use Rattle.rp_domain.proofs.Uses.{attributes_step}
use Rattle.rp_domain.proofs.users.put_attributes.Goals as goal

pub loop-at-preserved : goal.loop-at-preserved
loop-at-preserved c =
    rw c.in_ok-put_attribute.ensures (sym (attributes_step (rows c.loop-at.users.0 c.loop-at.users.1) c.args.place c.args.attributes.now c.args.written.now c.loop-at.at _ (omega arith) (search rules)) ∙ c.loop-at.invariant)
