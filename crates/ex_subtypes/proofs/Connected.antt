-- The steps between the members of a set, and what is reached by them.
use Rattle.std.proofs.Common.{◌≡◌, ◌↔◌, ◌<◌, ℕ, zero, suc, ◌+◌, ◌-◌, add-one, Bool, true, false, ◌&&◌, ◌||◌, ◌==◌, nat_lt, List, [], ◌∷◌, if◌then◌else◌, length, map, refl, sym, ◌∙◌, ap, arith}
use Rattle.std.proofs.lemmas.List.{get_or-map, get_or_past, length-map}
use Rattle.std.specs.List.{list_all}
use Rattle.plain_data.specs.Numbers.{is_among}
use Rattle.graphs.specs.Graphs.{supertypes, Reaches, IsAncestor, is_ancestor, numbers_from}
use Rattle.graphs.proofs.Bounded.{answer_is}
use Rattle.graphs.proofs.Left.{within_or, beyond_or}
use Rattle.graphs.proofs.Families.{is_among-filter, among_numbers}
use Rattle.ex_subtypes.specs.Legal.{is_beside, is_connected, member, places, steps}
use Rattle.ex_subtypes.specs.Edges.{AreBelow, HasSameSteps, goes_up}

-- ---- the steps of a place

module _ (above : List (List ℕ)) (set : List ℕ) where
  abbrev row : ℕ → List ℕ
  row a = places (is_beside above a) set

  row_at : (e : ℕ) (b : Bool) → nat_lt e (length set) ≡ b → supertypes (steps above set) e ≡ (if b then row (member set e) else [])
  unfolding steps
  row_at e true is = get_or-map row set e zero [] (within_or e (length set) is)
  row_at e false is = get_or_past (map row set) e [] (rw (length-map set row) (beyond_or e (length set) is))

  among_row : (e n : ℕ) (b : Bool) → is_among (if b then row (member set e) else []) n ≡ (b && (nat_lt n (length set) && is_beside above (member set e) (member set n)))
  among_row e n true =
      is_among-filter (λ place. is_beside above (member set e) (member set place)) (numbers_from zero (length set)) n
      ∙ ap (λ t. t && is_beside above (member set e) (member set n)) (among_numbers (length set) n)
  among_row e n false = refl

  pub steps_at : (e n : ℕ) → is_among (supertypes (steps above set) e) n ≡ (nat_lt e (length set) && (nat_lt n (length set) && is_beside above (member set e) (member set n)))
  steps_at e n = ap (λ l. is_among l n) (row_at e (nat_lt e (length set)) refl) ∙ among_row e n (nat_lt e (length set))

  both_ways : (a b u d : Bool) → ((a && (b && u)) || (a && (b && (a && d)))) ≡ (a && (b && (u || d)))
  both_ways true true u d = refl
  both_ways true false u d = refl
  both_ways false b u d = refl

  -- the steps up, and those turned round
  pub same_steps : (up down both : List (List ℕ)) → length up ≡ length set
      → ((e n : ℕ) → is_among (supertypes up e) n ≡ goes_up above set e n)
      → ((e n : ℕ) → is_among (supertypes down e) n ≡ (nat_lt e (length up) && is_among (supertypes up n) e))
      → ((e n : ℕ) → is_among (supertypes both e) n ≡ (is_among (supertypes up e) n || is_among (supertypes down e) n))
      → HasSameSteps both (steps above set)
  same_steps up down both size up_is down_is both_is e n =
      both_is e n
      ∙ rw (down_is e n, up_is e n, up_is n e, size) (both_ways (nat_lt e (length set)) (nat_lt n (length set)) (is_among (supertypes above (member set e)) (member set n)) (is_among (supertypes above (member set n)) (member set e)))
      ∙ sym (steps_at e n)

-- ---- what is reached

reaches-same : (g h : List (List ℕ)) → HasSameSteps g h → (n e a : ℕ) → Reaches g n e a → Reaches h n e a
reaches-same g h same zero e a r = sym (same e a) ∙ r
reaches-same g h same (suc n) e a r = (r.0, (sym (same e r.0) ∙ r.1.0, reaches-same g h same n r.0 a r.1.1))

ancestor-same : (g h : List (List ℕ)) → HasSameSteps g h → (e a : ℕ) → IsAncestor g e a → IsAncestor h e a
ancestor-same g h same e a r = (r.0, reaches-same g h same r.0 e a r.1)

-- what a search through one graph finds is what the other reaches
found_is_reached : (g h : List (List ℕ)) → HasSameSteps g h → (found : List ℕ) (first : ℕ) → ((a : ℕ) → (is_among found a ≡ true) ↔ IsAncestor g first a) → (a : ℕ) → is_among found a ≡ is_ancestor h first a
found_is_reached g h same found first exact a =
    answer_is h first a (is_among found a) ((λ there. ancestor-same g h same first a ((exact a).0 there)), (λ r. (exact a).1 (ancestor-same h g (λ e n. sym (same e n)) first a r)))

all_alike : (f g : ℕ → Bool) → ((a : ℕ) → f a ≡ g a) → (places : List ℕ) → list_all (λ place. place == zero || f place) places ≡ list_all (λ place. place == zero || g place) places
all_alike f g same [] = refl
all_alike f g same (place ∷ places) = rw (same place, all_alike f g same places) refl

pub connected_is : (above : List (List ℕ)) (set : List ℕ) (g : List (List ℕ)) (found : List ℕ) → HasSameSteps g (steps above set) → ((a : ℕ) → (is_among found a ≡ true) ↔ IsAncestor g zero a)
    → (nat_lt zero (length set) && list_all (λ place. place == zero || is_among found place) (numbers_from zero (length set))) ≡ is_connected above set
connected_is above set g found same exact =
    ap (λ b. nat_lt zero (length set) && b) (all_alike (is_among found) (is_ancestor (steps above set) zero) (found_is_reached g (steps above set) same found zero exact) (numbers_from zero (length set)))

-- ---- the members below others

-- the steps down are those to the members directly below
both_within : (a b x : Bool) → (a && (b && (a && x))) ≡ (a && (b && x))
both_within true b x = refl
both_within false b x = refl

module _ (above : List (List ℕ)) (set : List ℕ) (up down : List (List ℕ)) (size : length up ≡ length set)
    (up_is : (e n : ℕ) → is_among (supertypes up e) n ≡ goes_up above set e n)
    (down_is : (e n : ℕ) → is_among (supertypes down e) n ≡ (nat_lt e (length up) && is_among (supertypes up n) e)) where
  pub are_below : AreBelow above set down
  are_below e n =
      down_is e n
      ∙ rw (up_is n e, size) (both_within (nat_lt e (length set)) (nat_lt n (length set)) (is_among (supertypes above (member set n)) (member set e)))

  pub connected_told : (both : List (List ℕ)) (found : List ℕ)
      → ((e n : ℕ) → is_among (supertypes both e) n ≡ (is_among (supertypes up e) n || is_among (supertypes down e) n))
      → ((a : ℕ) → (is_among found a ≡ true) ↔ IsAncestor both zero a)
      → (nat_lt zero (length set) && list_all (λ place. place == zero || is_among found place) (numbers_from zero (length set))) ≡ is_connected above set
  connected_told both found both_is exact = connected_is above set both found (same_steps above set up down both size up_is down_is both_is) exact

-- ---- the places in turn

numbers_next : (k n : ℕ) → k < n → numbers_from k (n - k) ≡ k ∷ numbers_from (k + 1) (n - (k + 1))
numbers_next k n less = let more : n - k ≡ suc (n - (k + 1)) = omega arith in rw (more, add-one) refl

pub numbers_none : (n : ℕ) → numbers_from n (n - n) ≡ []
numbers_none n = let none : n - n ≡ zero = omega arith in rw none refl

-- each place is looked at, and then those behind it
pub places_next : (f : ℕ → Bool) (k n : ℕ) (told : Bool) → k < n → f k ≡ true → list_all f (numbers_from k (n - k)) ≡ told → list_all f (numbers_from (k + 1) (n - (k + 1))) ≡ told
places_next f k n told less here so_far =
    ap (λ b. b && list_all f (numbers_from (k + 1) (n - (k + 1)))) (sym here)
    ∙ ap (list_all f) (sym (numbers_next k n less))
    ∙ so_far
