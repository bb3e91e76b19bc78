-- Pairs among a list, and one pair more.
use Rattle.std.proofs.Common.{◌≡◌, ℕ, Bool, true, false, ◌||◌, ◌&&◌, ◌==◌, List, [], ◌∷◌, ◌++◌, map, refl, ◌∙◌, ap, Ordering, Less, Equal, Greater}
use Rattle.std.specs.BTreeSet.{insert_key}
use Rattle.std.specs.List.{list_any, flat_map}
use Rattle.std.proofs.lemmas.List.Folds.{list_any-append}
use Rattle.plain_data.proofs.Disjunctions.{or_again, or_turn}
use Rattle.ex_named.specs.declared.declaration.NamedEntity.{NamedEntity}
use Rattle.ex_named.specs.declared.reference.AttributePlace.{AttributePlace}
use Rattle.ex_named.specs.declared.reference.AttributeSort.{AttributeSort}
use Rattle.ex_named.specs.declared.reference.AttributeSort.TheVariants.{Explicit}
use Rattle.ex_slots.specs.Slots as spec
use Rattle.std.specs.Ordering.{match_ordering}

module _ {X : Type 0} (R : X → X → Ordering) (t : X → Bool) (same : (x y : X) → R x y ≡ Equal → t x ≡ t y) where
  at_head : (o : Ordering) (k x : X) (xs : List X) → R k x ≡ o → list_any t (insert_key R xs k) ≡ (t k || list_any t xs)
      → list_any t (match_ordering o (k ∷ x ∷ xs) (x ∷ xs) (x ∷ insert_key R xs k)) ≡ (t k || list_any t (x ∷ xs))
  at_head Less k x xs e more = refl
  at_head Equal k x xs e more = or_again (t k) (t x) (list_any t xs) (same k x e)
  at_head Greater k x xs e more = rw more (or_turn (t x) (t k) (list_any t xs))

  -- a test that equal ones pass alike passes one more where the new one does
  pub any-insert : (xs : List X) (k : X) → list_any t (insert_key R xs k) ≡ (t k || list_any t xs)
  any-insert [] k = refl
  any-insert (x ∷ xs) k = at_head (R k x) k x xs refl (any-insert xs k)

-- places of the first of two lists, or of the second
pub told_of_both : (xs ys : List AttributePlace) (e p : ℕ) → spec.is_derived (xs ++ ys) e p ≡ (spec.is_derived xs e p || spec.is_derived ys e p)
told_of_both xs ys e p = list_any-append (spec.is_explicit_at e p) xs ys

-- slots by a set of pairs are those by the places that it has
pub given_again : (entities : List NamedEntity) (numbers : List ℕ) (pairs : List (ℕ × ℕ)) (places : List AttributePlace) → spec.AreExplicit pairs places
    → flat_map (spec.slots_of entities (spec.has pairs)) numbers ≡ flat_map (spec.slots_of entities (spec.is_derived places)) numbers
given_again entities numbers pairs places same = λ i. flat_map (spec.slots_of entities (λ e p. same e p i)) numbers

pub each_again : (entities : List NamedEntity) (numbers : List ℕ) (pairs : List (ℕ × ℕ)) (places : List AttributePlace) → spec.AreExplicit pairs places
    → map (spec.slots_of entities (spec.has pairs)) numbers ≡ map (spec.slots_of entities (spec.is_derived places)) numbers
each_again entities numbers pairs places same = λ i. map (spec.slots_of entities (λ e p. same e p i)) numbers

and_so : (a b : Bool) → (a && b) ≡ (a && true && b)
and_so true b = refl
and_so false b = refl

-- an explicit attribute's place is told by its entity and its place there
pub explicit_is : (place : AttributePlace) (old : Bool) (e p : ℕ) → Explicit ≡ place.sort
    → (old || ((place.entity == e) && (place.place == p))) ≡ (old || spec.is_explicit_at e p place)
explicit_is place old e p is =
    ap (λ b. old || b) (and_so (place.entity == e) (place.place == p))
    ∙ ap (λ (sort : AttributeSort). old || spec.is_explicit_at e p (record { entity = place.entity; sort = sort; place = place.place })) is
