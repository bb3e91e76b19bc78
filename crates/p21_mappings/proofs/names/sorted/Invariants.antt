use Rattle.std.proofs.Common.{◌≡◌, take}
use Rattle.p21_instances.specs.Instances as spec
use Rattle.p21_mappings.proofs.names.sorted.Given as goal

abbrev pub invariant-loop-instance : goal.invariant-loop-instance
invariant-loop-instance l = l.numbers.items ≡ spec.names (take l.instance-index l.instances)
