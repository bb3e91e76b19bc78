-- How two values go together in a comparison by value.
use Rattle.rp_numbers.specs.declared.Logical.TheVariants as l
use Rattle.rp_operators.specs.declared.relations.Sides.{Sides}
use Rattle.rp_operators.specs.declared.relations.Sides.TheVariants as s
use Rattle.rp_value.specs.declared.value.Value.{Value}
use Rattle.rp_value.specs.declared.value.Value.TheVariants as v

-- where nothing is compared
abbrev pub undecided : Sides → Value
undecided s.Indeterminate = v.Log l.Unknown
undecided sides = v.Indet

-- what a comparison gives, by what it gives of aggregates and of others
abbrev pub of_sides : Sides → Value → Value → Value
of_sides s.Aggregates of_aggregates found = of_aggregates
of_sides s.Ordered of_aggregates found = found
of_sides sides of_aggregates found = undecided sides
