-- What attributes have as their values (ISO 10303-11:1994, 9.2.1 and 12.7.3), and which of several the name of one means.
use Rattle.std.specs.Prelude.{ℕ, pos, Bool, true, false, List, [], ◌∷◌, Option, Some, None, if◌then◌else◌, slice_get}
use Rattle.std.specs.List.{find}
use Rattle.std.specs.Option.{option_and_then, option_map, option_map_or, unwrap_or}
use Rattle.std.specs.Str.{bytes_eq}
use Rattle.ex_named.specs.declared.reference.AttributePlace.{AttributePlace}
use Rattle.ex_tree.specs.declared.declaration.InverseAggregate.{InverseAggregate}
use Rattle.ex_tree.specs.declared.declaration.SetOrBag.TheVariants as a
use Rattle.rp_value.specs.declared.value.AggregateKind.{AggregateKind}
use Rattle.rp_value.specs.declared.value.AggregateKind.TheVariants as k
use Rattle.rp_value.specs.declared.value.Value.{Value}
use Rattle.rp_value.specs.declared.value.Value.TheVariants as v
use Rattle.rp_code.specs.declared.role.NamedRole.{NamedRole}
use Rattle.rp_code.specs.declared.role.Role.{Role}
use Rattle.rp_code.specs.declared.role.Role.TheVariants as r
use Rattle.rp_meaning.specs.declared.schema.Derivation.{Derivation}
use Rattle.rp_meaning.specs.declared.schema.Entity.{Entity}
use Rattle.rp_meaning.specs.declared.schema.Given.{Given}
use Rattle.rp_meaning.specs.declared.schema.Inverse.{Inverse}
use Rattle.rp_meaning.specs.declared.schema.Schema.{Schema}
use Rattle.rp_meaning.specs.Populations.{Instance, instances, is_of}
use Rattle.rp_meaning.specs.Uses.{same_attribute, user_places, each_once}

-- which of these attributes is meant in an instance: the first of which it has the entity
abbrev pub chosen : List AttributePlace → Instance → Option AttributePlace
chosen attributes i = find (λ a. is_of i a.entity) attributes

-- the value that is stored in an instance, as it is read
abbrev pub stored_value : Instance → AttributePlace → Value
stored_value i a = option_map_or (λ x. x.read) (find (λ x. same_attribute x.attribute a) i.values) v.Indet

-- ---- what a schema declares

module _ (schema : Schema) where
  abbrev pub entity_at : ℕ → Option Entity
  entity_at number = slice_get schema.entities number

  abbrev pub explicit_derivations : AttributePlace → List Derivation
  explicit_derivations a = option_map_or (λ x. x.derivations) (option_and_then (λ e. slice_get e.explicit a.place) (entity_at a.entity)) []

  abbrev pub own_derivations : AttributePlace → List Derivation
  own_derivations a = unwrap_or (option_and_then (λ e. slice_get e.derived a.place) (entity_at a.entity)) []

  -- what gives an attribute's value, of several the first of which an instance has the entity
  abbrev pub derivation_in : List Derivation → Instance → Option Derivation
  derivation_in derivations i = find (λ x. is_of i x.entity) derivations

  abbrev pub derivation : ℕ → ℕ → Option Given
  derivation entity place = option_and_then (λ e. slice_get e.derivations place) (entity_at entity)

  abbrev pub inverse_at : ℕ → ℕ → Option Inverse
  inverse_at entity place = option_and_then (λ e. slice_get e.inverse place) (entity_at entity)

-- ---- roles

-- the role of this name; no name stands for every role
abbrev pub role_named : List NamedRole → List ℕ → Option Role
role_named roles [] = Some r.Every
role_named roles text = option_map (λ x. x.role) (find (λ x. bytes_eq x.name text) roles)

-- ---- inverse attributes

abbrev pub is_bag : Option InverseAggregate → Bool
is_bag None = false
is_bag (Some aggregate) = elim (aggregate.kind) [ a.Bag ↦ true | a.Set ↦ false ]

-- the places of its users: for a BAG once for each use, else each once
abbrev pub inverse_places : List Instance → Inverse → ℕ → List ℕ
inverse_places population x place =
    if is_bag x.aggregate then user_places population x.role place else each_once (user_places population x.role place)

abbrev pub only_one : List ℕ → Value
only_one (x ∷ []) = v.Inst x
only_one _ = v.Indet

abbrev pub aggregate : AggregateKind → List Value → Value
aggregate kind items = v.Agg kind (record { low = pos 1; items = items })

-- the value of an inverse attribute with these users: without an aggregate the only one
abbrev pub of_users : Option InverseAggregate → List ℕ → Value
of_users None places = only_one places
of_users (Some x) places = elim (x.kind) [ a.Bag ↦ aggregate k.Bag (instances places) | a.Set ↦ aggregate k.Set (instances places) ]
