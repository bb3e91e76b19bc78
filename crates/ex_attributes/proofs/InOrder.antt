-- Attributes in the order of where they are declared: the first that is declared in a place.
use Rattle.std.proofs.Common.{◌≡◌, ℕ, zero, suc, ◌<◌, ◌≤◌, Bool, true, false, List, [], ◌∷◌, filter, length, get_or, nat_lt, if◌then◌else◌, refl, sym, subst, ◌∙◌, ap, arith}
use Rattle.std.specs.Cmp.{IsTotalOrder}
use Rattle.std.specs.Cmp.Lexicographic.{slice_cmp, on_texts}
use Rattle.std.specs.List.Sorted.{IsNonDecreasingBy, IsPartitionPoint, IsPartitionedBy}
use Rattle.std.specs.Ordering.{nat_cmp, is_eq, ordering_index}
use Rattle.std.proofs.lemmas.List.{get_or_default}
use Rattle.std.proofs.lemmas.List.Sorted.{searchable_from_sorted, IsPartitionedBy-ltb}
use Rattle.std.proofs.lemmas.Map.Text.{is_eq-slice_cmp}
use Rattle.plain_data.proofs.Orderings.{is_less, not_equal_after, not_equal_before}
use Rattle.ex_named.specs.declared.reference.AttributePlace.{AttributePlace}
use Rattle.ex_attributes.specs.declared.attribute.Attribute.{Attribute}
use Rattle.ex_attributes.specs.Attributes.{place_key, same_place, kinds_of_first}
use Rattle.ex_attributes.specs.Tables.{is_before, IsInOrder}

key_order : IsTotalOrder (slice_cmp nat_cmp)
key_order = on_texts (λ n. n)

first_passing : (t : Attribute → Bool) (xs : List Attribute) (i : ℕ) (x : Attribute) → i < length xs → ((k : ℕ) (d : Attribute) → k < i → t (get_or xs k d) ≡ false) → t (get_or xs i x) ≡ true → kinds_of_first (filter t xs) ≡ (get_or xs i x).kinds
first_passing t [] i x within fails holds = absurd (omega (arith, within))
first_passing t (y ∷ xs) zero x within fails holds = rw holds refl
first_passing t (y ∷ xs) (suc i) x within fails holds = rw (fails 0 y (omega arith)) (first_passing t xs i x (omega (arith, within)) (λ k d low. fails (suc k) d (omega (arith, low))) holds)

none_passing : (t : Attribute → Bool) (xs : List Attribute) → ((k : ℕ) (d : Attribute) → k < length xs → t (get_or xs k d) ≡ false) → kinds_of_first (filter t xs) ≡ []
none_passing t [] fails = refl
none_passing t (x ∷ xs) fails = rw (fails 0 x (omega arith)) (none_passing t xs (λ k d within. fails (suc k) d (omega (arith, within))))

module _ (place : AttributePlace) (rows : List Attribute) (in_order : IsInOrder rows) where
  rises : IsNonDecreasingBy (λ (a : Attribute). ordering_index (slice_cmp nat_cmp (place_key a.place) (place_key place))) rows
  rises = searchable_from_sorted key_order (λ (a : Attribute). place_key a.place) rows (place_key place) in_order

  pub parted : IsPartitionedBy (is_before place) rows
  parted = subst (λ t. IsPartitionedBy t rows) (λ i a. sym (is_less (slice_cmp nat_cmp (place_key a.place) (place_key place))) i) (IsPartitionedBy-ltb (λ (a : Attribute). ordering_index (slice_cmp nat_cmp (place_key a.place) (place_key place))) rows 1 rises)

  module _ (i : ℕ) (within : i ≤ length rows) (parts : IsPartitionPoint (λ a. is_before place a ≡ true) (λ a. is_before place a ≡ false) rows i) where
    apart_by : (a : Attribute) → is_eq (slice_cmp nat_cmp (place_key a.place) (place_key place)) ≡ false → same_place a.place place ≡ false
    apart_by a apart = sym (is_eq-slice_cmp (place_key a.place) (place_key place)) ∙ apart

    fails_before : (k : ℕ) (d : Attribute) → k < i → same_place (get_or rows k d).place place ≡ false
    fails_before k d low = apart_by (get_or rows k d) (not_equal_before (slice_cmp nat_cmp (place_key (get_or rows k d).place) (place_key place)) (parts.0 k d (omega arith) low))

    found_at : (x : Attribute) → i < length rows → same_place (get_or rows i x).place place ≡ true → kinds_of_first (filter (λ a. same_place a.place place) rows) ≡ (get_or rows i x).kinds
    found_at x inside same = first_passing (λ a. same_place a.place place) rows i x inside fails_before same

    none_at : ((x : Attribute) → i < length rows → same_place (get_or rows i x).place place ≡ false) → kinds_of_first (filter (λ a. same_place a.place place) rows) ≡ []
    none_at apart = none_passing (λ a. same_place a.place place) rows fails
      where
        fails : (k : ℕ) (d : Attribute) → k < length rows → same_place (get_or rows k d).place place ≡ false
        fails k d inside = elim (nat_lt k i) as (λ t. nat_lt k i ≡ t → same_place (get_or rows k d).place place ≡ false) [
          | true ↦ λ low. fails_before k d (grind (arith, low))
          | false ↦ λ high. apart_by (get_or rows k d) (not_equal_after (slice_cmp nat_cmp (place_key (get_or rows i d).place) (place_key place)) (slice_cmp nat_cmp (place_key (get_or rows k d).place) (place_key place))
              (parts.1 i d (omega arith) (grind (arith, high))) (is_eq-slice_cmp (place_key (get_or rows i d).place) (place_key place) ∙ apart d (grind (arith, high))) (rises i k d (grind (arith, high)) inside))
        ] refl

    -- what the row there may be, if it is declared in this place
    pub told_some : (row : Attribute) → i < length rows → row ≡ get_or rows i row → kinds_of_first (filter (λ a. same_place a.place place) rows) ≡ (if same_place row.place place then row.kinds else [])
    told_some row inside is = elim (same_place row.place place) as (λ t. same_place row.place place ≡ t → kinds_of_first (filter (λ a. same_place a.place place) rows) ≡ (if t then row.kinds else [])) [
      | true ↦ λ same. found_at row inside (rw (← is) same) ∙ ap (λ (a : Attribute). a.kinds) (sym is)
      | false ↦ λ apart. none_at (λ x within. sym (ap (λ (a : Attribute). same_place a.place place) (is ∙ get_or_default rows i row x within)) ∙ apart)
    ] refl

    pub told_none : length rows ≤ i → kinds_of_first (filter (λ a. same_place a.place place) rows) ≡ []
    told_none beyond = none_at (λ x inside. absurd (omega (arith, beyond, inside)))
