-- The items of defined types, and types, by their names.
use Rattle.std.specs.Prelude.{ℕ, Bool, false, ◌||◌, List, [], ◌∷◌, map, Option, is_some, slice_get}
use Rattle.std.specs.Option.{option_map_or}
use Rattle.std.specs.Str.{bytes_eq, str_to_ascii_uppercase}
use Rattle.ex_tree.specs.declared.data_type.SimpleType.TheVariants as s
use Rattle.ex_named.specs.declared.declaration.NamedType.{NamedType}
use Rattle.ex_named.specs.declared.declaration.NamedUnderlying.{NamedUnderlying}
use Rattle.ex_named.specs.declared.declaration.NamedUnderlying.TheVariants as u
use Rattle.name_tables.specs.Names.{place_of}
use Rattle.ex_selects.specs.Ends.{Base, Plain, Enumeration}

abbrev pub items_by : NamedUnderlying → List (List ℕ)
items_by (u.Enumeration items) = map (λ i. i.text) items
items_by _ = []

-- the items of BOOLEAN and of LOGICAL, as exchange files spell them (ISO 10303-21:2002, 10.1)
abbrev pub is_boolean : List ℕ → Bool
is_boolean name = bytes_eq (70 ∷ []) name || bytes_eq (84 ∷ []) name

abbrev pub is_logical : List ℕ → Bool
is_logical name = is_boolean name || bytes_eq (85 ∷ []) name

module _ (types : List NamedType) where
  -- the names of an enumeration's items
  abbrev pub items : ℕ → List (List ℕ)
  items number = option_map_or (λ x. items_by x.underlying) (slice_get types number) []

  -- whether a type that is no SELECT has an item of this name
  abbrev pub has_item : List ℕ → Base → Bool
  has_item name (Plain s.Boolean) = is_boolean name
  has_item name (Plain s.Logical) = is_logical name
  has_item name (Enumeration number) = is_some (place_of name (items number))
  has_item name _ = false

  -- the type of this name, in either case
  abbrev pub type_named : List ℕ → Option ℕ
  type_named keyword = place_of (str_to_ascii_uppercase keyword) (map (λ x. x.name.text) types)
