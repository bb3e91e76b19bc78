-- Whether rules of a defined type may be tried on something in the values of an attribute, by its declarations alone.
use Rattle.std.specs.Prelude.{◌≡◌, ℕ, zero, suc, ◌==◌, ◌&&◌, ◌||◌, Bool, true, false, List, [], ◌∷◌, map, length, nat_lt, Option, Some, None, is_some, slice_get, slice_set, slice_index_or}
use Rattle.std.specs.List.{list_any}
use Rattle.std.specs.Option.{option_map_or}
use Rattle.plain_data.specs.Numbers.{is_among}
use Rattle.ex_named.specs.declared.expression.NamedDataType.{NamedDataType}
use Rattle.ex_named.specs.declared.reference.AttributePlace.{AttributePlace}
use Rattle.ex_named.specs.declared.reference.TypeName.{TypeName}
use Rattle.ex_named.specs.declared.reference.TypeName.TheVariants as t
use Rattle.rp_faults.specs.Declarations.{declared_types}
use Rattle.rp_meaning.specs.Bare.{carried}
use Rattle.rp_meaning.specs.declared.schema.DefinedType.{DefinedType}
use Rattle.rp_meaning.specs.declared.schema.Entity.{Entity}
use Rattle.rp_meaning.specs.declared.schema.ExplicitAttribute.{ExplicitAttribute}
use Rattle.rp_meaning.specs.declared.schema.Redeclaration.{Redeclaration}
use Rattle.rp_meaning.specs.declared.schema.Schema.{Schema}
use Rattle.rp_meaning.specs.TypeRules.{element_of, named, with_beneath}
use Rattle.rp_meaning.specs.Types.{End, Select, aggregate_type, end, end_of}
use Rattle.rp_rules.specs.declared.plan.Plan.{Plan}
use Rattle.rp_rules.specs.declared.plan.Tryable.{Tryable}
use Rattle.rp_value.specs.declared.value.Value.{Value}

-- ---- by a declared type

module _ (types : List DefinedType) (number : ℕ) where
  -- the type itself, or one that renames it
  abbrev pub is_under : ℕ → Bool
  is_under from = is_among (with_beneath types [] from) number

  -- whether it renames so many that they are not looked through for each choice of a SELECT
  abbrev pub is_long : ℕ → Bool
  is_long from = option_map_or (λ y. nat_lt 100 (length y.beneath)) (slice_get types from) false

  -- whether a value may be tried, or have elements that are, that is written as a choice of a SELECT; instances may carry any type
  abbrev pub may_choose : TypeName → Bool
  may_choose (t.Entity entity) = true
  may_choose (t.Defined other) = is_long other || is_under other || is_some (aggregate_type (end_of types other))

  -- of so many choices one may
  abbrev pub may_carry : ℕ → Bool
  may_carry from = option_map_or (λ y. nat_lt 100 (length y.choices) || list_any may_choose y.choices) (slice_get types from) false

  abbrev pub is_between : ℕ → Bool
  is_between from = is_among (option_map_or (λ y. y.selects) (slice_get types from) []) number

  -- whether a value itself may be tried, which carries a type or none
  abbrev pub may_be_by : End → Option ℕ → Bool → Bool
  may_be_by (Select choices) (Some from) is_named = from == number || is_between from || is_named && may_carry from
  may_be_by _ (Some from) is_named = is_under from
  may_be_by _ None is_named = false

  -- whether it may, or something that stands in it, where whatever stands deeper than so many aggregates may
  unfoldable pub may_stand : ℕ → Bool → NamedDataType → Bool
  may_stand zero is_named data_type = true
  may_stand (suc depth) is_named data_type =
      may_be_by (end types data_type) (named data_type) is_named || option_map_or (may_stand depth true) (element_of types [] data_type) false

  abbrev pub tryable : NamedDataType → Tryable
  tryable data_type = record { bare = may_stand 8 false data_type; named = may_stand 8 true data_type }

-- ---- what may be tried

abbrev pub nothing : Tryable
nothing = record { bare = false; named = false }

abbrev pub anything : Tryable
anything = record { bare = true; named = true }

abbrev pub either : Tryable → Tryable → Tryable
either p q = record { bare = p.bare || q.bare; named = p.named || q.named }

abbrev pub may_be_tried : Tryable → Bool
may_be_tried p = p.bare || p.named

-- ---- by redeclarations, beside others of the same entity

abbrev pub at_entity : List Tryable → ℕ → Tryable
at_entity found entity = slice_index_or found entity anything

abbrev pub put : List Tryable → ℕ → Tryable → List Tryable
put found entity p = slice_set found entity (either (at_entity found entity) p)

module _ (types : List DefinedType) (number : ℕ) where
  abbrev pub put_all : List Tryable → List Redeclaration → List Tryable
  put_all found [] = found
  put_all found (r ∷ others) = put_all (put found r.attribute.entity (tryable types number r.declaration.data_type)) others

  abbrev pub put_of : List Tryable → List Entity → List Tryable
  put_of found [] = found
  put_of found (e ∷ others) = put_of (put_all found e.redeclarations) others

  -- ---- by declarations

  abbrev pub by_declaration : ExplicitAttribute → Tryable
  by_declaration x = tryable types number x.declaration.data_type

  -- of the explicit attributes of an entity
  abbrev pub own : List ExplicitAttribute → List Tryable
  own explicit = map by_declaration explicit

-- ---- of attributes

abbrev pub own_at : List (List Tryable) → AttributePlace → Tryable
own_at rows a = option_map_or (λ row. slice_index_or row a.place nothing) (slice_get rows a.entity) nothing

abbrev pub tryable_at : Plan → AttributePlace → Tryable
tryable_at plan a = either (own_at plan.own a) (at_entity plan.again a.entity)

-- whether something in a value may be tried
abbrev pub may_have : Plan → AttributePlace → Value → Bool
may_have plan a x = (tryable_at plan a).bare || (tryable_at plan a).named && is_some (carried x)

-- or in any values of these attributes
abbrev pub may_have_any : Plan → List AttributePlace → Bool
may_have_any plan attributes = list_any (λ a. may_be_tried (tryable_at plan a)) attributes

abbrev pub on_named : Tryable → Bool → Bool
on_named p true = p.named
on_named p false = p.bare

-- Where a plan says that nothing may be tried, none of the declarations lets anything.
abbrev pub Tells : Schema → ℕ → Plan → Type 0
Tells schema number plan = (a : AttributePlace) (entities : List ℕ) (is_named : Bool) → on_named (tryable_at plan a) is_named ≡ false
    → list_any (may_stand schema.types number 8 is_named) (declared_types schema entities a) ≡ false

-- it says that everything may be
abbrev pub no_plan : Plan
no_plan = record { again = []; own = [] }
