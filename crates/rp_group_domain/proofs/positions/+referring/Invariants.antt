use Rattle.std.proofs.Common.{◌≡◌, ℕ, map, take}
use Rattle.rp_positions.specs.Positions.{positioned}
use Rattle.rp_group_domain.proofs.positions.+referring.Given as goal

abbrev pub invariant-one_has_reference-loop-value : goal.invariant-one_has_reference-loop-value
invariant-one_has_reference-loop-value l = (position : ℕ → ℕ) → map (positioned position) (take l.value-index l.values) ≡ take l.value-index l.values
