use Rattle.std.proofs.Common.{◌≡◌, ◌++◌, drop}
use Rattle.rp_meaning.specs.Levels.{most_turns, parameters_given}
use Rattle.rp_eval.proofs.walk.Walk.parameters.Given as goal

abbrev pub invariant-loop-place : goal.invariant-loop-place
invariant-loop-place g l =
    let means = parameters_given (g.W.Setting.world l.self.world.now) most_turns in
    l.found ++ means (drop l.place l.data_types) (drop l.place l.arguments) ≡ means l.data_types l.arguments
