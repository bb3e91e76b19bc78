use Rattle.std.proofs.Common.{◌∙◌, sym, arith, rules}
use Rattle.rp_domain.proofs.Standing.{once_step}
use Rattle.rp_domain.proofs.extents.instances_once.Goals as goal

pub loop-place-preserved : goal.loop-place-preserved
loop-place-preserved c =
    let step = once_step c.loop-place.found c.loop-place.last c.args.places.now c.loop-place.place-index _ (omega arith) (search rules) in
    rw c.in_ok-push_once.ensures (sym step ∙ c.loop-place.invariant)
