-- The records of a mapping, and the names that they refer to.
use Rattle.std.specs.Prelude.{ℕ, List, [], ◌∷◌}
use Rattle.std.specs.List.{flat_map}
use Rattle.p21_instances.specs.Instances.{references}
use Rattle.p21_tree.specs.declared.instance.Mapping.{Mapping}
use Rattle.p21_tree.specs.declared.instance.Mapping.TheVariants.{Internal, External}
use Rattle.p21_tree.specs.declared.instance.Record.{Record}

-- the one of an internal mapping, or those of an external one
abbrev pub parts : Mapping → List Record
parts (Internal part) = part ∷ []
parts (External several) = several

abbrev pub references_of : Mapping → List ℕ
references_of mapping = flat_map (λ part. flat_map references part.values) (parts mapping)
