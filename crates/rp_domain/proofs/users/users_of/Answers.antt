use Rattle.std.proofs.Common.{◌∙◌, sym, arith}
use Rattle.rp_domain.specs.Chains.{rows}
use Rattle.rp_domain.proofs.Uses.{population_step}
use Rattle.rp_domain.proofs.users.users_of.Goals as goal

pub loop-place-preserved : goal.loop-place-preserved
loop-place-preserved c =
    let step = population_step (rows c.loop-place.users.0 c.loop-place.users.1) c.args.instances.now c.loop-place.place c.index-instances-place.result (omega arith) c.index-instances-place.is in
    rw c.in_ok-put_instance.ensures (sym step ∙ c.loop-place.invariant)
