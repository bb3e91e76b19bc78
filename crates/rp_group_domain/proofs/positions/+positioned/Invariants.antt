use Rattle.std.proofs.Common.{◌≡◌, ◌++◌, map, drop}
use Rattle.rp_positions.specs.Positions.{positioned}
use Rattle.rp_group_domain.specs.Models.{named_at}
use Rattle.rp_group_domain.proofs.positions.+positioned.Given as goal

abbrev pub invariant-all_positioned-loop-value : goal.invariant-all_positioned-loop-value
invariant-all_positioned-loop-value l = l.found ++ map (positioned (named_at l.names)) (drop l.value-index l.values) ≡ map (positioned (named_at l.names)) l.values
