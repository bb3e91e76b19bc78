-- An instance of different entities has each attribute once.
use Rattle.std.proofs.Common.{◌≡◌, ◌≢◌, ℕ, zero, suc, ◌+◌, ◌<◌, ◌≤◌, List, [], ◌∷◌, map, length, AllPairs, Option, Some, None, slice_index_or, refl, sym, ap, ◌∙◌, arith}
use Rattle.std.specs.List.{AllByRecursion, range_with_len, zip}
use Rattle.std.specs.Option.{option_map_or}
use Rattle.ex_named.specs.declared.reference.AttributePlace.{AttributePlace}
use Rattle.rp_meaning.specs.declared.schema.Entity.{Entity}
use Rattle.rp_meaning.specs.declared.schema.Schema.{Schema}
use Rattle.rp_meaning.specs.Attributes.{entity_at}
use Rattle.rp_meaning.specs.Populations.{Stored}
use Rattle.rp_meaning.specs.Reading.{attributes, explicit_place, explicit_places, instance_of, stored_as}
use Rattle.rp_value.specs.declared.value.Value.{Value}
use Rattle.rp_rule_laws.proofs.ReportsCulprits.{Pairs, all-append, all-next, all-pairs, pairs-append}

by-all : {A : Type 0} (P : A → Type 0) (xs : List A) → ((k : ℕ) (d : A) → k < length xs → P (slice_index_or xs k d)) → AllByRecursion P xs
by-all P [] all = tt
by-all P (x ∷ xs) all = (all 0 x (omega arith), by-all P xs (λ k d low. all (suc k) d (omega arith)))

by-pairs : {A : Type 0} (R : A → A → Type 0) (xs : List A) → AllPairs R xs → Pairs R xs
by-pairs R [] all = tt
by-pairs R (x ∷ xs) all = (by-all (R x) xs (λ k d low. all 0 (suc k) d (omega arith) (omega arith)), by-pairs R xs (λ i j d less low. all (suc i) (suc j) d (omega arith) (omega arith)))

abbrev Differ : AttributePlace → AttributePlace → Type 0
Differ a b = a ≢ b

abbrev IsOf : ℕ → AttributePlace → Type 0
IsOf e a = a.entity ≡ e

module _ (schema : Schema) where
  -- ---- of one entity

  from-place : (e at n : ℕ) → AllByRecursion (λ a. at ≤ a.place) (map (explicit_place schema e) (range_with_len at n))
  from-place e at zero = tt
  from-place e at (suc n) = (omega arith, all-next (λ a. at + 1 ≤ a.place) (λ a. at ≤ a.place) (λ a low. omega (arith, low)) (map (explicit_place schema e) (range_with_len (at + 1) n)) (from-place e (at + 1) n))

  other-place : (e at : ℕ) (b : AttributePlace) → at + 1 ≤ b.place → explicit_place schema e at ≢ b
  other-place e at b low same = let place = ap (λ (a : AttributePlace). a.place) same in omega arith

  places-differ : (e at n : ℕ) → Pairs Differ (map (explicit_place schema e) (range_with_len at n))
  places-differ e at zero = tt
  places-differ e at (suc n) = (
    all-next (λ a. at + 1 ≤ a.place) (Differ (explicit_place schema e at)) (other-place e at) (map (explicit_place schema e) (range_with_len (at + 1) n)) (from-place e (at + 1) n),
    places-differ e (at + 1) n,
  )

  of-entity : (e at n : ℕ) → AllByRecursion (IsOf e) (map (explicit_place schema e) (range_with_len at n))
  of-entity e at zero = tt
  of-entity e at (suc n) = (refl, of-entity e (at + 1) n)

  own-differ : (e : ℕ) (o : Option Entity) → Pairs Differ (option_map_or (λ x. map (explicit_place schema e) (range_with_len 0 (length x.explicit))) o [])
  own-differ e None = tt
  own-differ e (Some x) = places-differ e 0 (length x.explicit)

  own-entity : (e : ℕ) (o : Option Entity) → AllByRecursion (IsOf e) (option_map_or (λ x. map (explicit_place schema e) (range_with_len 0 (length x.explicit))) o [])
  own-entity e None = tt
  own-entity e (Some x) = of-entity e 0 (length x.explicit)

  -- ---- of several

  others-differ : (e : ℕ) (a : AttributePlace) → IsOf e a → (es : List ℕ) → AllByRecursion (λ f. e ≢ f) es → AllByRecursion (Differ a) (attributes schema es)
  others-differ e a is [] apart = tt
  others-differ e a is (f ∷ es) apart =
      all-append (Differ a) (explicit_places schema f) (attributes schema es)
      (all-next (IsOf f) (Differ a) (λ b of same. apart.0 (sym is ∙ ap (λ (x : AttributePlace). x.entity) same ∙ of)) (explicit_places schema f) (own-entity f (entity_at schema f)))
      (others-differ e a is es apart.1)

  all-differ : (es : List ℕ) → Pairs (λ e f. e ≢ f) es → Pairs Differ (attributes schema es)
  all-differ [] apart = tt
  all-differ (e ∷ es) apart =
      pairs-append Differ (explicit_places schema e) (attributes schema es) (own-differ e (entity_at schema e)) (all-differ es apart.1)
      (all-next (IsOf e) (λ a. AllByRecursion (Differ a) (attributes schema es)) (λ a is. others-differ e a is es apart.0) (explicit_places schema e) (own-entity e (entity_at schema e)))

  -- ---- as they have values

  module _ (count : ℕ) (entities : List ℕ) where
    abbrev put : AttributePlace × Value → Stored
    put p = stored_as schema count entities p.0 p.1

    valued-all : (a : AttributePlace) (bs : List AttributePlace) (xs : List Value) → AllByRecursion (Differ a) bs → AllByRecursion (λ y. a ≢ y.attribute) (map put (zip bs xs))
    valued-all a [] xs all = tt
    valued-all a (b ∷ bs) [] all = tt
    valued-all a (b ∷ bs) (x ∷ xs) all = (all.0, valued-all a bs xs all.1)

    valued : (bs : List AttributePlace) (xs : List Value) → Pairs Differ bs → Pairs (λ x y. x.attribute ≢ y.attribute) (map put (zip bs xs))
    valued [] xs all = tt
    valued (a ∷ bs) [] all = tt
    valued (a ∷ bs) (x ∷ xs) all = (valued-all a bs xs all.0, valued bs xs all.1)

  pub attributes-once : (count : ℕ) (entities : List ℕ) (values : List Value) → AllPairs (λ e f. e ≢ f) entities → AllPairs (λ x y. x.attribute ≢ y.attribute) (instance_of schema count entities values).values
  attributes-once count entities values apart =
      all-pairs (λ x y. x.attribute ≢ y.attribute) (instance_of schema count entities values).values
      (valued count entities (attributes schema entities) values (all-differ entities (by-pairs (λ e f. e ≢ f) entities apart)))
