use Rattle.std.proofs.Common.{◌≡◌, length}
use Rattle.rp_eval.specs.Serving.{AllServe}
use Rattle.rp_eval.proofs.setting.World.kept_constants.Given as goal

abbrev pub invariant-loop-number : goal.invariant-loop-number
invariant-loop-number g l = AllServe l.self l.found × (length l.found ≡ l.number)
