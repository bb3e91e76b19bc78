use Rattle.std.proofs.Common.{◌≤◌, length, sym, ◌∙◌, arith}
use Rattle.rp_meaning.specs.Levels.{most_turns}
use Rattle.rp_eval.proofs.Parameters.{parameters_past}
use Rattle.rp_eval.proofs.walk.Walk.parameters.Goals as goal

pub returns-in_default : goal.returns-in_default
returns-in_default g c =
    let w = g.W.Setting.world c.args.self.now.world.now in
    let behind : length c.args.arguments.now ≤ c.loop-place.place = omega (arith, c.in_default.ensures.lookup) in
    let past = parameters_past w most_turns c.args.data_types.now c.args.arguments.now c.loop-place.found c.loop-place.place behind in
    sym past ∙ c.loop-place.invariant
