use Rattle.std.proofs.Common.{◌≡◌, ◌++◌, drop}
use Rattle.std.specs.List.{flat_map}
use Rattle.p21_mappings.specs.Referred.{part_references}
use Rattle.p21_mappings.proofs.referred.put_references_of_parts.Given as goal

abbrev pub invariant-loop-part : goal.invariant-loop-part
invariant-loop-part l =
    l.found.items ++ flat_map part_references (drop l.part-index l.parts) ≡ l.initial.found.items ++ flat_map part_references l.parts
