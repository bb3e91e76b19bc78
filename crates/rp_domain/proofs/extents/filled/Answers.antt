use Rattle.std.proofs.Common.{◌∙◌, sym, arith}
use Rattle.rp_domain.proofs.Standing.{standing_step}
use Rattle.rp_domain.proofs.extents.filled.Goals as goal

pub loop-place-preserved : goal.loop-place-preserved
loop-place-preserved c =
    let step = standing_step c.loop-place.rows.items c.args.instances.now c.loop-place.place c.index-instances-place.result (omega arith) c.index-instances-place.is in
    let put = rw c.entities.ensures at c.in_ok-put_place.ensures in
    rw put (sym step ∙ c.loop-place.invariant)
