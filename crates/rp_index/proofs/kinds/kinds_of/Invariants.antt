use Rattle.std.proofs.Common.{take}
use Rattle.std.specs.List.{flat_map}
use Rattle.rp_index.specs.Index.{is_under, kinds_of}
use Rattle.rp_index.specs.Pairs.{HasAll}
use Rattle.rp_index.proofs.kinds.kinds_of.Given as goal

abbrev pub invariant-loop-instance : goal.invariant-loop-instance
invariant-loop-instance l = HasAll (is_under l.kinds.items) (flat_map kinds_of (take l.instance-index l.instances))
