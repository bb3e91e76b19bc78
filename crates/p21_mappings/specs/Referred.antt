-- What a mapping refers to.
use Rattle.std.specs.Prelude.{ℕ, List}
use Rattle.std.specs.List.{flat_map}
use Rattle.p21_instances.specs.Instances.{references}
use Rattle.p21_tree.specs.declared.instance.Mapping.{Mapping}
use Rattle.p21_tree.specs.declared.instance.Mapping.TheVariants.{Internal, External}
use Rattle.p21_tree.specs.declared.instance.Record.{Record}

abbrev pub part_references : Record → List ℕ
part_references part = flat_map references part.values

abbrev pub mapping_references : Mapping → List ℕ
mapping_references (Internal part) = part_references part
mapping_references (External parts) = flat_map part_references parts
