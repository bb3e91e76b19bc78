use Rattle.std.proofs.Common.{◌≡◌, ◌++◌, drop}
use Rattle.std.specs.List.{flat_map}
use Rattle.rp_index.specs.Index.{uses_of}
use Rattle.rp_index.proofs.uses.all_uses.Given as goal

abbrev pub invariant-loop-instance : goal.invariant-loop-instance
invariant-loop-instance l = l.found.items ++ flat_map uses_of (drop l.instance-index l.instances) ≡ flat_map uses_of l.instances
