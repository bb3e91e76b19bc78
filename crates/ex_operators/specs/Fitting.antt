-- What fits what. A kind that nothing is known of, as of `?` and GENERIC, fits everywhere.
use Rattle.std.specs.Prelude.{nat_lt, Bool, true, false, not, ◌||◌, ◌&&◌, List, [], ◌∷◌, length}
use Rattle.std.specs.List.{list_any}
use Rattle.plain_data.specs.Numbers.{is_among}
use Rattle.ex_kinds.specs.Kinds.{Kinds}
use Rattle.ex_kinds.specs.Types.{Possible, plain, possible}

abbrev pub is_enumeration : Possible → Bool
is_enumeration p = nat_lt 0 (length p.enumerations)

-- whether nothing is known to be possible, as of `?`
abbrev pub is_nothing : Possible → Bool
is_nothing p = not (p.integer || p.real || p.string || p.binary || p.logical || p.instance || p.aggregate || p.generic || is_enumeration p)

-- whether it fits everywhere
abbrev pub is_open : Possible → Bool
is_open p = p.generic || is_nothing p

abbrev pub can_be_integer : Possible → Bool
can_be_integer p = is_open p || p.integer

abbrev pub can_be_number : Possible → Bool
can_be_number p = is_open p || p.integer || p.real

abbrev pub can_be_string : Possible → Bool
can_be_string p = is_open p || p.string

abbrev pub can_be_binary : Possible → Bool
can_be_binary p = is_open p || p.binary

abbrev pub can_be_logical : Possible → Bool
can_be_logical p = is_open p || p.logical

abbrev pub can_be_instance : Possible → Bool
can_be_instance p = is_open p || p.instance

abbrev pub can_be_aggregate : Possible → Bool
can_be_aggregate p = is_open p || p.aggregate

abbrev pub can_be_enumeration : Possible → Bool
can_be_enumeration p = is_open p || is_enumeration p

-- ---- two operands

abbrev pub are_integers : Possible → Possible → Bool
are_integers p q = can_be_integer p && can_be_integer q

abbrev pub are_strings : Possible → Possible → Bool
are_strings p q = can_be_string p && can_be_string q

abbrev pub are_binaries : Possible → Possible → Bool
are_binaries p q = can_be_binary p && can_be_binary q

abbrev pub are_logicals : Possible → Possible → Bool
are_logicals p q = can_be_logical p && can_be_logical q

abbrev pub are_aggregates : Possible → Possible → Bool
are_aggregates p q = can_be_aggregate p && can_be_aggregate q

-- an enumeration that both may be of
abbrev pub share_enumeration : Possible → Possible → Bool
share_enumeration p q = list_any (λ n. is_among q.enumerations n) p.enumerations

abbrev pub is_open_beside_enumeration : Possible → Possible → Bool
is_open_beside_enumeration p q = (is_open p && can_be_enumeration q) || (can_be_enumeration p && is_open q)

abbrev pub are_of_one_enumeration : Possible → Possible → Bool
are_of_one_enumeration p q = is_open_beside_enumeration p q || share_enumeration p q

abbrev pub are_simply_ordered : Possible → Possible → Bool
are_simply_ordered p q = (can_be_number p && can_be_number q) || are_strings p q || are_binaries p q || are_logicals p q

-- what `<` compares: numbers, strings, binaries, logical values, items of one enumeration
abbrev pub are_ordered : Possible → Possible → Bool
are_ordered p q = are_simply_ordered p q || are_of_one_enumeration p q

-- what `=` compares, instances of entities aside, and what `<=` takes
abbrev pub are_comparable : Possible → Possible → Bool
are_comparable p q = are_ordered p q || are_aggregates p q

-- ---- a value, and what it is given to

-- INTEGER fits REAL
abbrev pub fits_number : Possible → Possible → Bool
fits_number p q = (p.integer && (q.integer || q.real)) || (p.real && q.real)

abbrev pub share_simple : Possible → Possible → Bool
share_simple p q = (p.string && q.string) || (p.binary && q.binary) || (p.logical && q.logical)

-- entities fit entities, aggregates aggregates
abbrev pub fits_simply : Possible → Possible → Bool
fits_simply p q = is_open p || q.generic || fits_number p q || share_simple p q || (p.instance && q.instance) || (p.aggregate && q.aggregate)

-- whether a value of the first fits a place of the second
abbrev pub fits_place : Possible → Possible → Bool
fits_place p q = fits_simply p q || share_enumeration p q

module _ (types : List Kinds) where
  -- what a value of these kinds may be
  abbrev pub possibly : Kinds → Possible
  possibly kinds = possible (plain types kinds)

  unfoldable pub fits : Kinds → Kinds → Bool
  fits value place = fits_place (possibly value) (possibly place)

  -- each argument its parameter, and as many
  abbrev pub all_fit : List Kinds → List Kinds → Bool
  all_fit [] [] = true
  all_fit (value ∷ values) (place ∷ places) = fits value place && all_fit values places
  all_fit _ _ = false

  unfoldable pub is_integer : Kinds → Bool
  is_integer kinds = can_be_integer (possibly kinds)
