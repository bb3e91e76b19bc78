use Rattle.std.proofs.Common.{◌≡◌, drop}
use Rattle.std.specs.List.{flat_map, list_all}
use Rattle.p21_instances.specs.Instances.{references}
use Rattle.p21_mappings.proofs.value.+references.Given as goal

abbrev pub invariant-are_defined-loop-value : goal.invariant-are_defined-loop-value
invariant-are_defined-loop-value g l = list_all (g.N.DefinedNames.is_defined l.names) (flat_map references (drop l.value-index l.values)) ≡ list_all (g.N.DefinedNames.is_defined l.names) (flat_map references l.values)
