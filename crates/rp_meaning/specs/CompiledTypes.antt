-- Defined types as they are evaluated: what they are behind all names, and what SELECTs choose from (ISO 10303-11:1994, 8.4.2 and 9.1).
use Rattle.std.specs.Prelude.{ℕ, zero, suc, not, ◌==◌, if◌then◌else◌, List, [], ◌∷◌, ◌++◌, map, filter, length, Option, Some, None, slice_get}
use Rattle.std.specs.List.{flat_map, filter_map}
use Rattle.std.specs.Option.{option_map_or}
use Rattle.ex_named.specs.declared.declaration.NamedType.{NamedType}
use Rattle.ex_named.specs.declared.declaration.NamedUnderlying.{NamedUnderlying}
use Rattle.ex_named.specs.declared.declaration.NamedUnderlying.TheVariants as u
use Rattle.ex_named.specs.declared.expression.NamedDataType.{NamedDataType, NamedDataType-F, out-NamedDataType}
use Rattle.ex_named.specs.declared.reference.TypeName.{TypeName}
use Rattle.ex_named.specs.declared.reference.TypeName.TheVariants as t
use Rattle.ex_renamings.specs.Renamings.{renamed, end, is_select}
use Rattle.graphs.specs.Graphs.{family, each_once}
use Rattle.plain_data.specs.Numbers.{numbered}
use Rattle.rp_meaning.specs.declared.schema.Underlying.{Underlying}
use Rattle.rp_meaning.specs.declared.schema.Underlying.TheVariants as b

-- ---- behind all names

abbrev pub underlying_by : ℕ → NamedUnderlying → Underlying
underlying_by number (u.Enumeration items) = b.Enumeration number
underlying_by number (u.Select members) = b.Select
underlying_by number (u.Data data_type) = b.Data data_type

module _ (types : List NamedType) where
  abbrev pub underlying : ℕ → Underlying
  underlying number = option_map_or (λ x. underlying_by (end types number) x.underlying) (slice_get types (end types number)) b.Select

  -- the types that one renames, so many at most, the nearest first
  abbrev pub renamed_within : ℕ → ℕ → List ℕ
  renamed_within zero number = []
  renamed_within (suc n) number = if renamed types number == number then [] else renamed types number ∷ renamed_within n (renamed types number)

  -- where renamings form no cycle, fewer follow each other than there are types
  abbrev pub beneath : ℕ → List ℕ
  beneath number = renamed_within (length types) number

-- ---- SELECTs

abbrev pub entity_in : TypeName → Option ℕ
entity_in (t.Entity entity) = Some entity
entity_in (t.Defined number) = None

abbrev pub defined_in : TypeName → Option ℕ
defined_in (t.Entity entity) = None
defined_in (t.Defined number) = Some number

abbrev pub name_in : NamedDataType-F NamedDataType → List TypeName
name_in (NamedDataType-F.Named name) = name ∷ []
name_in _ = []

-- what a type lists, or the one that it renames
abbrev pub named_by : NamedUnderlying → List TypeName
named_by (u.Enumeration items) = []
named_by (u.Select members) = members
named_by (u.Data data_type) = name_in (out-NamedDataType data_type)

module _ (types : List NamedType) where
  -- the members of a SELECT: one that renames another has it as its one member
  abbrev pub members : ℕ → List TypeName
  members number = if is_select types number then option_map_or (λ x. named_by x.underlying) (slice_get types number) [] else []

  -- of each type the defined types among its members
  abbrev pub selection : List (List ℕ)
  selection = numbered (λ number x. filter_map defined_in (members number)) types

  -- a SELECT, and those among its members, at any depth
  abbrev pub selects : ℕ → List ℕ
  selects number = filter (is_select types) (family selection number)

  -- the members of a SELECT and of those among its members
  abbrev pub all_members : ℕ → List TypeName
  all_members number = flat_map members (selects number)

  abbrev pub chosen_entities : ℕ → List ℕ
  chosen_entities number = each_once (filter_map entity_in (all_members number))

  -- those that are no SELECTs
  abbrev pub chosen_types : ℕ → List ℕ
  chosen_types number = each_once (filter (λ k. not (is_select types k)) (filter_map defined_in (all_members number)))

  -- what a SELECT chooses from
  abbrev pub choices : ℕ → List TypeName
  choices number = map t.Entity (chosen_entities number) ++ map t.Defined (chosen_types number)
