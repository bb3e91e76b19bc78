-- What a set of entities takes of a supertype expression, from what it takes of the parts.
use Rattle.std.specs.Prelude.{ℕ, if◌then◌else◌, List}
use Rattle.plain_data.specs.Numbers.{is_among}
use Rattle.ex_named.specs.declared.declaration.NamedSupertype.{NamedSupertype}
use Rattle.ex_named.specs.declared.declaration.NamedSupertype.TheFolds.{fold-NamedSupertype}
use Rattle.ex_named.specs.declared.declaration.NamedSupertype.TheOpen.{NamedSupertype-F}
use Rattle.ex_subtypes.specs.declared.choices.Choice.{Choice}
use Rattle.ex_subtypes.specs.declared.choices.Choice.TheVariants.{Nothing, Combination, Neither}
use Rattle.ex_subtypes.specs.declared.choices.Connective.{Connective}
use Rattle.ex_subtypes.specs.declared.choices.Connective.TheVariants.{OneOf, And, AndOr}
use Rattle.ex_subtypes.specs.Combinations.{joined}

-- ---- two that are joined

abbrev pub either_choice : Choice → Choice → Choice
either_choice Nothing c = c
either_choice Combination Nothing = Combination
either_choice Combination _ = Neither
either_choice Neither _ = Neither

abbrev pub both_choice : Choice → Choice → Choice
both_choice Nothing Nothing = Nothing
both_choice Combination Combination = Combination
both_choice _ _ = Neither

abbrev pub either_or_both_choice : Choice → Choice → Choice
either_or_both_choice Nothing c = c
either_or_both_choice Combination Neither = Neither
either_or_both_choice Combination _ = Combination
either_or_both_choice Neither _ = Neither

abbrev pub join_choices : Connective → Choice → Choice → Choice
join_choices OneOf = either_choice
join_choices And = both_choice
join_choices AndOr = either_or_both_choice

-- ---- an expression that names no entity twice, by one walk through it

module _ (set : List ℕ) where
  abbrev pub walk_layer : NamedSupertype-F Choice → Choice
  walk_layer (NamedSupertype-F.Entity e at) = if is_among set e then Combination else Nothing
  walk_layer (NamedSupertype-F.OneOf parts) = joined Nothing (join_choices OneOf) parts
  walk_layer (NamedSupertype-F.And parts) = joined Nothing (join_choices And) parts
  walk_layer (NamedSupertype-F.AndOr parts) = joined Nothing (join_choices AndOr) parts

  unfoldable pub walked : NamedSupertype → Choice
  walked = fold-NamedSupertype Choice walk_layer
