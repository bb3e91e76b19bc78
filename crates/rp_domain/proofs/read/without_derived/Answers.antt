use Rattle.std.proofs.Common.{◌∙◌, sym, arith, rules}
use Rattle.rp_domain.proofs.Sharing.{derived_step}
use Rattle.rp_domain.proofs.read.without_derived.Goals as goal

pub loop-at-preserved : goal.loop-at-preserved
loop-at-preserved c =
    let step = derived_step c.loop-at.values c.loop-at.at _ c.args.derived.now (omega arith) (search rules) in
    rw c.forget.ensures (sym step ∙ c.loop-at.invariant)
