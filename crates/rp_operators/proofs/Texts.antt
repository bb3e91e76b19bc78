-- Names of types, one after the other.
use Rattle.std.proofs.Common.{◌≡◌, ℕ, Bool, true, false, if◌then◌else◌, List, [], ◌∷◌, ◌++◌, map, filter, Option, None, Some, refl, sym, ◌∙◌, ap, slice_get}
use Rattle.std.proofs.lemmas.List.{map-append, append-nil}
use Rattle.std.proofs.lemmas.List.Elements.{filter_map-append}
use Rattle.std.proofs.lemmas.Option.{slice_get-map}
use Rattle.std.specs.List.{filter_map, cons_option}
use Rattle.std.specs.Option.{option_map}
use Rattle.plain_data.specs.Numbers.{is_among}
use Rattle.rp_meaning.specs.Attributes.{aggregate}
use Rattle.rp_meaning.specs.Bare.{carried, carried_by}
use Rattle.rp_meaning.specs.Populations.{Instance}
use Rattle.rp_meaning.specs.TypeNames as names
use Rattle.rp_meaning.specs.declared.schema.Schema.{Schema}
use Rattle.rp_operators.proofs.Sights.{bare-Inst}
use Rattle.rp_operators.specs.Naming.{entity_names, texts, texts_at, unnamed, defined_types, with_enumeration}
use Rattle.rp_value.specs.declared.value.AggregateKind.TheVariants as k
use Rattle.rp_value.specs.declared.value.Value.{Value}
use Rattle.rp_value.specs.declared.value.Value.TheOpen.{Value-F}
use Rattle.rp_value.specs.declared.value.Value.TheVariants as v
use Rattle.rp_value.specs.declared.value.Value.TheViews.{out-roll-Value}

with_unless : (numbers : List ℕ) (enumeration : ℕ) (among : Bool) → (if among then numbers else numbers ++ enumeration ∷ []) ≡ numbers ++ (if among then [] else enumeration ∷ [])
with_unless numbers enumeration true = sym (append-nil numbers)
with_unless numbers enumeration false = refl

with_unnamed : (schema : Schema) (numbers : List ℕ) (y : Value-F Value) → with_enumeration schema numbers y ≡ numbers ++ unnamed numbers y
with_unnamed schema numbers (Value-F.Item enumeration place) = with_unless numbers enumeration (is_among numbers enumeration)
with_unnamed schema numbers Value-F.Indet = sym (append-nil numbers)
with_unnamed schema numbers (Value-F.Int n) = sym (append-nil numbers)
with_unnamed schema numbers (Value-F.Dec d) = sym (append-nil numbers)
with_unnamed schema numbers (Value-F.Str text) = sym (append-nil numbers)
with_unnamed schema numbers (Value-F.Bin bits) = sym (append-nil numbers)
with_unnamed schema numbers (Value-F.Log x) = sym (append-nil numbers)
with_unnamed schema numbers (Value-F.Inst name) = sym (append-nil numbers)
with_unnamed schema numbers (Value-F.Agg kind elements) = sym (append-nil numbers)
with_unnamed schema numbers (Value-F.Named n x) = sym (append-nil numbers)

-- where there is no name
pub nothing_more : (all : List Value) (number : ℕ) (found : List Value) → None ≡ slice_get all number → found ≡ found ++ texts_at all (number ∷ [])
nothing_more all number found is = rw (sym is) (sym (append-nil found))

module _ {A : Type 0} (name : A → List ℕ) (xs : List A) where
  first_named : (x : Option A) (rest : List (List ℕ)) → cons_option (option_map (λ x. v.Str (name x)) x) (map (λ text. v.Str text) rest) ≡ map (λ text. v.Str text) (cons_option (option_map name x) rest)
  first_named None rest = refl
  first_named (Some x) rest = refl

  -- the texts of names are those of what has them
  pub texts_named : (numbers : List ℕ) → texts_at (map (λ x. v.Str (name x)) xs) numbers ≡ map (λ text. v.Str text) (filter_map (λ number. option_map name (slice_get xs number)) numbers)
  texts_named [] = refl
  texts_named (number ∷ numbers) =
      (λ i. cons_option (slice_get-map (λ x. v.Str (name x)) xs number i) (texts_named numbers i))
      ∙ first_named (slice_get xs number) (filter_map (λ number. option_map name (slice_get xs number)) numbers)

-- all of them
pub all_names : (schema : Schema) (numbers : List ℕ) (y : Value-F Value) (undefined : List (List ℕ)) (carried unnamed_too all : List Value)
    → carried ≡ texts_at (map (λ x. v.Str x.name) schema.types) numbers
    → unnamed_too ≡ carried ++ texts_at (map (λ x. v.Str x.name) schema.types) (unnamed numbers y)
    → all ≡ unnamed_too ++ texts schema undefined
    → all ≡ texts schema (filter_map (names.type_name schema []) (with_enumeration schema numbers y) ++ undefined)
all_names schema numbers y undefined carried unnamed_too all first more last =
    let of_types : List Value = map (λ x. v.Str x.name) schema.types in
    last
    ∙ ap (λ zs. zs ++ texts schema undefined)
    (more
    ∙ ap (λ zs. zs ++ texts_at of_types (unnamed numbers y)) first
    ∙ sym (filter_map-append (slice_get of_types) numbers (unnamed numbers y))
    ∙ ap (texts_at of_types) (sym (with_unnamed schema numbers y))
    ∙ texts_named (λ x. x.name) schema.types (with_enumeration schema numbers y))
    ∙ sym (map-append (λ text. v.Str text) (filter_map (names.type_name schema []) (with_enumeration schema numbers y)) undefined)

module _ (schema : Schema) where
  -- those of the entities of an instance
  pub entity_texts : (all : List Value) (entities order : List ℕ) → all ≡ map (λ x. v.Str x.name) schema.entities → order ≡ schema.entity_order
      → texts_at all (filter (is_among entities) order) ≡ texts schema (filter_map (names.entity_name schema []) (filter (is_among entities) schema.entity_order))
  entity_texts all entities order named ordered = (λ i. texts_at (named i) (filter (is_among entities) (ordered i))) ∙ texts_named (λ x. x.name) schema.entities (filter (is_among entities) schema.entity_order)

  pub of_entities : (all : List Value) (entities same order : List ℕ) (none found : List Value) → all ≡ map (λ x. v.Str x.name) schema.entities → order ≡ schema.entity_order → same ≡ entities → none ≡ []
      → found ≡ none ++ texts_at all (filter (is_among entities) order) → aggregate k.Set found ≡ entity_names schema same
  of_entities all entities same order none found named ordered are empty is =
      ap (aggregate k.Set) (is ∙ ap (λ zs. zs ++ texts_at all (filter (is_among entities) order)) empty ∙ entity_texts all entities order named ordered)
      ∙ ap (entity_names schema) (sym are)

  -- an instance carries no defined type
  pub of_instance : (population : List Instance) (x : Value) (place : ℕ) (i : Instance) → x ≡ v.Inst place → Some i ≡ slice_get population place
      → entity_names schema i.entities ≡ aggregate k.Set (names.texts schema population (names.type_names schema population x))
  of_instance population x place i is stands =
      let none : None ≡ carried x = sym (ap carried (is ∙ sym (v.rolls-Inst place)) ∙ ap carried_by (out-roll-Value (Value-F.Inst place))) in
      ap (λ o. aggregate k.Set (texts schema (names.entity_names schema population o))) stands
      ∙ (λ j. aggregate k.Set (texts schema (filter_map (names.type_name schema []) (with_enumeration schema (defined_types schema (none j)) (bare-Inst x place is j)) ++ names.simple_names schema population (bare-Inst x place is j))))
