-- The instance that a mapping is, or its first fault (ISO 10303-21:2002, 10.2).
use Rattle.std.specs.Prelude.{ℕ, Bool, true, false, ◌||◌, ◌==◌, if◌then◌else◌, List, [], ◌∷◌, ◌++◌, length, map, Option, Some, None, is_some, slice_index_or, Result, Ok, Err}
use Rattle.std.specs.Global.{Vec}
use Rattle.std.specs.List.{flat_map, list_all, list_any, zip}
use Rattle.std.specs.Option.{option_map}
use Rattle.std.specs.Str.{str_to_ascii_uppercase}
use Rattle.ex_slots.specs.Slots.{Slot}
use Rattle.ex_layouts.specs.declared.layout.Layout.{Layout}
use Rattle.ex_layouts.specs.Entities.{entity_spelled}
use Rattle.ex_schemas.specs.Schemas.{Checked}
use Rattle.name_tables.specs.Names.{place_of}
use Rattle.p21_instances.specs.Instances.{references}
use Rattle.p21_tree.specs.declared.fault.InstanceFaultKind.{InstanceFaultKind}
use Rattle.p21_tree.specs.declared.fault.InstanceFaultKind.TheVariants.{Twice, UnknownEntity, IllegalCombination, WrongCount, NotDerived, WrongKind, Undefined}
use Rattle.p21_tree.specs.declared.instance.Mapping.{Mapping}
use Rattle.p21_tree.specs.declared.instance.Mapping.TheVariants.{Internal, External}
use Rattle.p21_tree.specs.declared.instance.Record.{Record}
use Rattle.p21_tree.specs.declared.value.Value.{Value as SpelledValue, out-Value}
use Rattle.p21_tree.specs.declared.value.Value.TheFolds.{fold-Value}
use Rattle.p21_tree.specs.declared.value.Value.TheOpen.{Value-F}
use Rattle.p21_tree.specs.declared.instance.Instance as tree
use Rattle.p21_values.specs.Taking.{all_there, bound}
use Rattle.rp_content.specs.declared.instance.Instance.{Instance}
use Rattle.rp_value.specs.declared.value.Value.{Value}
use Rattle.rp_value.specs.declared.value.Value.TheVariants as v
use Rattle.p21_mappings.specs.Layouts.{internal, external}

-- what is mapped of an instance, or what is wrong with it
abbrev pub Mapped : Type 0 → Type 0
Mapped A = Result A InstanceFaultKind

abbrev pub and_then : {A B : Type 0} → Mapped A → (A → Mapped B) → Mapped B
and_then (Ok a) next = next a
and_then (Err kind) next = Err kind

-- what all give, from the left, or the first fault
abbrev pub each : {A B : Type 0} → (A → Mapped B) → List A → Mapped (List B)
each read [] = Ok []
each read (x ∷ xs) = and_then (read x) (λ y. and_then (each read xs) (λ ys. Ok (y ∷ ys)))

-- ---- `*`

abbrev pub star_layer : Value-F Bool → Bool
star_layer Value-F.Derived = true
star_layer (Value-F.List found) = list_any (λ b. b) found
star_layer (Value-F.Typed keyword found) = found
star_layer _ = false

-- whether a value has one, at any depth
abbrev pub has_star : SpelledValue → Bool
has_star = fold-Value Bool star_layer

abbrev pub is_open : Value-F SpelledValue → Bool
is_open Value-F.Unset = true
is_open Value-F.Derived = true
is_open _ = false

-- `*` or `$`
abbrev pub is_left_out : SpelledValue → Bool
is_left_out x = is_open (out-Value x)

-- ---- keywords

-- whether one of them stood before
abbrev pub repeats : List (List ℕ) → List (List ℕ) → Bool
repeats before [] = false
repeats before (k ∷ ks) = is_some (place_of k before) || repeats (before ++ k ∷ []) ks

abbrev pub keywords : List Record → List (List ℕ)
keywords = map (λ part. str_to_ascii_uppercase part.keyword)

-- whether an entity stands twice
abbrev pub has_twice : Mapping → Bool
has_twice (Internal part) = false
has_twice (External parts) = repeats [] (keywords parts)

-- the numbers that were found, as contracts see them
abbrev pub numbers_in : Option (Vec ℕ) → Option (List ℕ)
numbers_in = option_map (λ v. v.items)

-- ---- values

-- each part has as many values as it has attributes
abbrev pub same_counts : List (List Slot) → List Record → Bool
same_counts slots records = list_all (λ p. length p.0 == length p.1.values) (zip slots records)

-- the values of the parts, which stand in the file's order, as the layout has them
abbrev pub in_places : List ℕ → List (List Value) → List Value
in_places places lists = flat_map (λ place. slice_index_or lists place []) places

abbrev pub made : ℕ → Layout → List (List Value) → Instance
made name layout lists = record { name = name; entities = layout.instance_entities; values = in_places layout.places lists }

abbrev pub counted : {A : Type 0} → Bool → Mapped A → Mapped A
counted fits read = if fits then read else Err WrongCount

-- what is wrong with a value that an attribute doesn't take
abbrev pub misplaced : SpelledValue → InstanceFaultKind
misplaced x = if has_star x then NotDerived else WrongKind

-- of an attribute that an entity of the instance derives
abbrev pub derived_value : SpelledValue → Mapped Value
derived_value x = if is_left_out x then Ok v.Indet else Err (misplaced x)

module _ (schema : Checked) (is_defined : ℕ → Bool) where
  abbrev pub defined : Option Value → Bool → Mapped Value
  defined None all = Err WrongKind
  defined (Some x) all = if all then Ok x else Err Undefined

  -- the value of an attribute, or the first that holds of what is wrong with it at any depth
  abbrev pub value : Slot × SpelledValue → Mapped Value
  value s =
      if s.0.is_derived then derived_value s.1
      else if has_star s.1 then Err NotDerived
      else defined (bound schema.named.schema.types s.0.data_type s.1) (list_all is_defined (references s.1))

  abbrev pub part : List Slot × Record → Mapped (List Value)
  part p = each value (zip p.0 p.1.values)

  abbrev pub by_layout : ℕ → List Record → Option Layout → Mapped Instance
  by_layout name records None = Err IllegalCombination
  by_layout name records (Some layout) =
      counted (same_counts layout.slots records) (and_then (each part (zip layout.slots records)) (λ lists. Ok (made name layout lists)))

  abbrev pub by_entity : ℕ → List Record → Option ℕ → Mapped Instance
  by_entity name records None = Err UnknownEntity
  by_entity name records (Some entity) = by_layout name records (internal schema entity)

  abbrev pub by_entities : ℕ → List Record → Option (List ℕ) → Mapped Instance
  by_entities name records None = Err UnknownEntity
  by_entities name records (Some entities) = by_layout name records (external schema entities)

  -- the instance of an external mapping of these parts
  unfoldable pub by_several : ℕ → List Record → Mapped Instance
  by_several name records = by_entities name records (all_there (map (λ r. entity_spelled schema r.keyword) records))

  abbrev pub by_mapping : ℕ → Mapping → Mapped Instance
  by_mapping name (Internal single) = by_entity name (single ∷ []) (entity_spelled schema single.keyword)
  by_mapping name (External records) = by_several name records

  -- an instance whose name stood before or not
  unfoldable pub instance : Bool → tree.Instance → Mapped Instance
  instance stood x = if stood || has_twice x.mapping then Err Twice else by_mapping x.name x.mapping
