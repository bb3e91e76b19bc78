use Rattle.std.proofs.Common.{◌≡◌, drop}
use Rattle.std.specs.List.{list_any}
use Rattle.rp_operations.specs.Seen.{holds_instance}
use Rattle.rp_operations.proofs.bare.+instances.Given as goal

abbrev pub invariant-hold_instance-loop-value : goal.invariant-hold_instance-loop-value
invariant-hold_instance-loop-value l = list_any holds_instance (drop l.value-index l.values) ≡ list_any holds_instance l.values
