use Rattle.std.proofs.Common.{◌≡◌, ◌++◌, drop}
use Rattle.std.specs.List.{flat_map}
use Rattle.p21_instances.specs.Instances.{references}
use Rattle.p21_mappings.proofs.referred.+references.Given as goal

abbrev pub invariant-put_all_references-loop-value : goal.invariant-put_all_references-loop-value
invariant-put_all_references-loop-value l =
    l.found.items ++ flat_map references (drop l.value-index l.values) ≡ l.initial.found.items ++ flat_map references l.values
