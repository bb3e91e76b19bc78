use Rattle.std.proofs.Common.{◌<◌, length, ap, arith}
use Rattle.ex_subtypes.specs.Legal as spec
use Rattle.ex_subtypes.proofs.Broken.{below_at}
use Rattle.ex_subtypes.proofs.legal.first_broken.Goals as goal

pub breaks-requires-clause-below : goal.breaks-requires-clause-below
breaks-requires-clause-below c =
    let set = c.args.set.now in
    let place = c.loop-place.place in
    let within : place < length set = omega (arith, c.loop-place-test.true, ap length c.as_slice-members.ensures.same) in
    below_at (spec.graph c.args.entities.now) set c.args.below.now c.supertypes.result.now place (spec.member c.as_slice-members.result.now place) c.requires.below within c.supertypes.ensures (ap (λ l. spec.member l place) c.as_slice-members.ensures.same)
