-- Where the instances of one model stand in a population.
use Rattle.std.proofs.Common.{◌≡◌, ℕ, zero, suc, ◌+◌, ◌≤◌, nat_lt, Bool, true, false, ◌&&◌, List, [], ◌∷◌, map, length, take, Some, refl, sym, ◌∙◌, ap, subst, arith, length-append}
use Rattle.std.proofs.lemmas.Bool.Decides.{nat_tests}
use Rattle.std.proofs.lemmas.List.{length-map}
use Rattle.std.specs.Prelude.{if◌then◌else◌, slice_get}
use Rattle.std.specs.List.{AllByRecursion, position_or_len}
use Rattle.std.specs.Cmp.{tied_then}
use Rattle.std.specs.declared.cmp.Ordering.{Ordering}
use Rattle.std.specs.declared.cmp.Ordering.TheVariants.{Less, Equal, Greater}
use Rattle.std.specs.Ordering.{is_eq, is_gt, nat_cmp, ordering_then, ordering_reverse}
use Rattle.std.proofs.lemmas.Cmp.{tied_itself}
use Rattle.sorted_tables.specs.Table.{is_at, is_after, IsAscending}
use Rattle.sorted_tables.proofs.Ascending.{is_gt-true, all-append}
use Rattle.rp_content.specs.declared.instance.Instance.{Instance}
use Rattle.rp_rows.specs.declared.rows.Key.{Key}
use Rattle.rp_rows.specs.Rows.{key_cmp}
use Rattle.rp_rows.specs.Instances.{is_instance}
use Rattle.rp_rows.proofs.Keys.{key_total}
use Rattle.rp_population.specs.Populations.{Counted, Placed, placed, placed_all, population}
use Rattle.rp_positions.specs.Positions.{counted_key}
use Rattle.rp_group_domain.specs.Models.{own_place, place_cmp, place_of}
use Rattle.rp_group_domain.proofs.PlaceOrder.{place_total}
use Rattle.rp_group_domain.proofs.Walks.{passed_over, before_those, mapped, same_test}

-- what stands at a place of a model
abbrev pub is_place : Key → ℕ → Placed → Bool
is_place k name = is_at place_cmp own_place (record { model = k; instance = name })

-- no instance of another model stands there
other_model : (k : Key) (name : ℕ) (m : Counted) (is : List Instance) → is_eq (key_cmp m.model k) ≡ false → AllByRecursion (λ x. is_place k name x ≡ false) (map (placed m) is)
other_model k name m [] other = tt
other_model k name m (i ∷ is) other =
    (sym (tied_then (key_cmp m.model k) (nat_cmp i.name name)) ∙ ap (λ t. t && is_eq (nat_cmp i.name name)) other, other_model k name m is other)

greater_differs : (t : Ordering) → is_gt t ≡ true → is_eq t ≡ false
greater_differs Less h = cc
greater_differs Equal h = cc
greater_differs Greater h = refl

later_models : (k : Key) (name : ℕ) (ms : List Counted) → AllByRecursion (λ (m : Counted). is_after key_cmp counted_key k m ≡ true) ms → AllByRecursion (λ x. is_place k name x ≡ false) (population ms)
later_models k name [] later = tt
later_models k name (m ∷ ms) later =
    all-append place_cmp own_place place_total (λ x. is_place k name x ≡ false) (placed_all m) (population ms) (other_model k name m m.content.instances (greater_differs (key_cmp m.model k) later.0)) (later_models k name ms later.1)

-- in the model the names tell
own_name : (m : Counted) (name : ℕ) (i : Instance) → is_place m.model name (placed m i) ≡ is_instance name i
own_name m name i = ap (λ o. is_eq (ordering_then o (nat_cmp i.name name))) (tied_itself key_total m.model)

own_walk : (m : Counted) (name : ℕ) → position_or_len (is_place m.model name) (placed_all m) ≡ place_of m.content.instances name
unfolding place_of
own_walk m name =
    mapped (is_place m.model name) (placed m) m.content.instances
    ∙ same_test (λ (i : Instance). is_place m.model name (placed m i)) (is_instance name) (own_name m name) m.content.instances

-- ---- the model at a place

-- of so many, the first of which stands at a start; behind all where it is none of them
abbrev pub own_from : ℕ → ℕ → ℕ → ℕ → ℕ
own_from start size count place = if nat_lt place size then start + place else count

first_stands : (m : Counted) (ms : List Counted) (name : ℕ) → AllByRecursion (λ (n : Counted). is_after key_cmp counted_key m.model n ≡ true) ms
    → position_or_len (is_place m.model name) (population (m ∷ ms)) ≡ own_from 0 (length m.content.instances) (length (population (m ∷ ms))) (place_of m.content.instances name)
first_stands m ms name later =
    before_those (is_place m.model name) (placed_all m) (population ms) (later_models m.model name ms later)
    ∙ by (position_or_len (is_place m.model name) (placed_all m)) (length (placed_all m)) (own_walk m name) (length-map m.content.instances (placed m)) (length-append (placed_all m) (population ms))
  where
    by : (w l : ℕ) → w ≡ place_of m.content.instances name → l ≡ length m.content.instances → length (population (m ∷ ms)) ≡ l + length (population ms)
        → (if nat_lt w l then w else l + length (population ms)) ≡ own_from 0 (length m.content.instances) (length (population (m ∷ ms))) (place_of m.content.instances name)
    by w l e f g = grind (arith, nat_tests)

pub holds_at : {X : Type 0} (P : X → Type 0) (xs : List X) (at : ℕ) (x : X) → slice_get xs at ≡ Some x → AllByRecursion P xs → P x
holds_at P [] at x is all = cc
holds_at P (y ∷ xs) zero x is all = let same : y ≡ x = cc in subst P same all.0
holds_at P (y ∷ xs) (suc at) x is all = holds_at P xs at x is all.1

earlier_differs : (k j : Key) → is_gt (key_cmp k j) ≡ true → is_eq (key_cmp j k) ≡ false
earlier_differs k j later = ap is_eq (key_total.antisymm j k ∙ ap ordering_reverse (is_gt-true (key_cmp k j) later))

pub own_stands : (ms : List Counted) (at : ℕ) (m : Counted) (name : ℕ) → IsAscending key_cmp counted_key ms → slice_get ms at ≡ Some m
    → position_or_len (is_place m.model name) (population ms) ≡ own_from (length (population (take at ms))) (length m.content.instances) (length (population ms)) (place_of m.content.instances name)
own_stands [] at m name order is = cc
own_stands (n ∷ ms) zero m name order is =
    let same : n ≡ m = cc in
    subst (λ (x : Counted). position_or_len (is_place x.model name) (population (n ∷ ms)) ≡ own_from 0 (length x.content.instances) (length (population (n ∷ ms))) (place_of x.content.instances name)) same (first_stands n ms name order.0)
own_stands (n ∷ ms) (suc at) m name order is =
    passed_over (is_place m.model name) (placed_all n) (population ms)
    (other_model m.model name n n.content.instances (earlier_differs m.model n.model (holds_at (λ (x : Counted). is_after key_cmp counted_key n.model x ≡ true) ms at m is order.0)))
    ∙ ap (λ l. length (placed_all n) + l) (own_stands ms at m name order.1 is)
    ∙ by (nat_lt (place_of m.content.instances name) (length m.content.instances)) (length-append (placed_all n) (population ms)) (length-append (placed_all n) (population (take at ms)))
  where
    by : (t : Bool) → length (population (n ∷ ms)) ≡ length (placed_all n) + length (population ms) → length (population (take (suc at) (n ∷ ms))) ≡ length (placed_all n) + length (population (take at ms))
        → length (placed_all n) + (if t then length (population (take at ms)) + place_of m.content.instances name else length (population ms))
        ≡ (if t then length (population (take (suc at) (n ∷ ms))) + place_of m.content.instances name else length (population (n ∷ ms)))
    by true e f = omega arith
    by false e f = omega arith

-- it stands within the population
pub own_within : (ms : List Counted) (at : ℕ) (m : Counted) → slice_get ms at ≡ Some m → length (population (take at ms)) + length m.content.instances ≤ length (population ms)
own_within [] at m is = cc
own_within (n ∷ ms) zero m is =
    let same : n ≡ m = cc in
    subst (λ (x : Counted). 0 + length x.content.instances ≤ length (population (n ∷ ms))) same (omega (arith, length-append (placed_all n) (population ms), length-map n.content.instances (placed n)))
own_within (n ∷ ms) (suc at) m is =
    omega (arith, own_within ms at m is, length-append (placed_all n) (population ms), length-append (placed_all n) (population (take at ms)))
