use Rattle.std.proofs.Common.{◌≡◌, ◌++◌, map, drop}
use Rattle.p21_mappings.specs.Contents as spec
use Rattle.p21_mappings.proofs.header.+header.Given as goal

abbrev pub invariant-header_values-loop-value : goal.invariant-header_values-loop-value
invariant-header_values-loop-value l = l.items ++ map spec.header_value (drop l.value-index l.values) ≡ map spec.header_value l.values
