use Rattle.std.proofs.Common.{◌<◌, length, arith}
use Rattle.std.proofs.lemmas.Grind.{common_steps}
use Rattle.p21_values.proofs.Steps.{both_turn}
use Rattle.p21_values.proofs.deciding.both.Goals as goal
use Rattle.p21_values.proofs.deciding.both.Goals.{then-at, else-at}

pub loop-place-preserved : goal.loop-place-preserved
loop-place-preserved c =
    let within : c.loop-place.place < length c.args.first.now = grind (arith, common_steps) in
    let turn = both_turn c.args.first.now c.args.second.now c.loop-place.place within c.requires in
    elim c.if-at.branch [ then-at w ↦ grind (arith, common_steps, turn) | else-at w ↦ grind (arith, common_steps, turn) ]

pub returns : goal.returns
returns c = grind (arith, common_steps)
