use Rattle.std.proofs.Common.{◌≡◌, drop, map, ◌++◌}
use Rattle.rp_positions.specs.Positions.{counted_key}
use Rattle.rp_reports.proofs.culprits.keys_of.Given as goal

abbrev pub invariant-loop-model : goal.invariant-loop-model
invariant-loop-model l = l.keys ++ map counted_key (drop l.model-index l.models) ≡ map counted_key l.models
