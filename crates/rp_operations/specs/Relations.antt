-- Which equality is asked for.
use Rattle.rp_numbers.specs.declared.Logical.{Logical}
use Rattle.rp_operations.specs.Seen.{Seen}
use Rattle.rp_operations.specs.Equality.{equality, equal_scalars, same_scalars}
use Rattle.rp_operations.specs.declared.equality.Relation.{Relation}
use Rattle.rp_operations.specs.declared.equality.Relation.TheVariants.{Equal, Same}
use Rattle.rp_value.specs.declared.value.Value.{Value}

abbrev pub scalars_by : Relation → Seen → Seen → Logical
scalars_by Equal = equal_scalars
scalars_by Same = same_scalars

abbrev pub equality_by : Relation → Value → Value → Logical
equality_by r = equality (scalars_by r)
