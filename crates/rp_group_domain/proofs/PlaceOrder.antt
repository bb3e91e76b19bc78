-- The instances of a population stand in the order of their places.
use Rattle.std.proofs.Common.{◌≡◌, ℕ, suc, ◌+◌, ◌==◌, Bool, true, false, not, ◌&&◌, cond, List, [], ◌∷◌, ◌++◌, map, refl, sym, ◌∙◌, ap, arith}
use Rattle.std.specs.Prelude.{if◌then◌else◌}
use Rattle.std.specs.List.{AllByRecursion, position_or_len}
use Rattle.std.specs.Cmp.{IsTotalOrder, tied_then}
use Rattle.std.specs.declared.cmp.Ordering.{Ordering}
use Rattle.std.specs.Ordering.{is_eq, is_gt, nat_cmp, ordering_then}
use Rattle.std.proofs.lemmas.Bool.Decides.{nat_tests}
use Rattle.std.proofs.lemmas.Cmp.{nat_cmp_total, on_total, then_total, tied_itself}
use Rattle.std.proofs.lemmas.Map.Text.{is_eq-slice_cmp}
use Rattle.sorted_tables.specs.Table as table
use Rattle.sorted_tables.specs.Table.{is_after, IsAscending}
use Rattle.sorted_tables.proofs.Ascending.{is_gt-true, all-append}
use Rattle.rp_content.specs.declared.instance.Instance.{Instance}
use Rattle.rp_rows.specs.declared.rows.Key.{Key}
use Rattle.rp_rows.specs.Rows.{key_cmp, same_key, text_cmp}
use Rattle.rp_rows.specs.Contents.{instance_name}
use Rattle.rp_rows.specs.Instances.{IsInOrder}
use Rattle.rp_rows.proofs.Keys.{key_total}
use Rattle.rp_population.specs.declared.place.Place.{Place}
use Rattle.rp_population.specs.Populations.{Counted, Placed, is_at, placed, placed_all, population}
use Rattle.rp_positions.specs.Positions.{AreInOrder, IsSearchable, counted_key, place_position}
use Rattle.rp_group_domain.specs.Models.{own_place, place_cmp}
use Rattle.rp_group_domain.proofs.Walks.{same_test}

pub place_total : IsTotalOrder place_cmp
place_total = then_total (on_total (λ (p : Place). p.model) key_total) (on_total (λ (p : Place). p.instance) nat_cmp_total)

-- ---- the same place

pub same_number : (m k : ℕ) → is_eq (nat_cmp m k) ≡ (k == m)
same_number m k = grind (arith, nat_tests)

pub tied_keys : (k j : Key) → is_eq (key_cmp j k) ≡ same_key k j
tied_keys k j =
    sym (tied_then (text_cmp j.owner k.owner) (text_cmp j.name k.name))
    ∙ (λ i. is_eq-slice_cmp j.owner k.owner i && is_eq-slice_cmp j.name k.name i)

pub tied_places : (p : Place) (x : Placed) → table.is_at place_cmp own_place p x ≡ is_at p x
tied_places p x =
    sym (tied_then (key_cmp x.place.model p.model) (nat_cmp x.place.instance p.instance))
    ∙ (λ i. tied_keys p.model x.place.model i && same_number x.place.instance p.instance i)

pub walked : (p : Place) (xs : List Placed) → place_position xs p ≡ position_or_len (is_at p) xs
unfolding place_position
walked p [] = refl
walked p (x ∷ xs) = by (is_at p x) (walked p xs)
  where
    by : (t : Bool) → place_position xs p ≡ position_or_len (is_at p) xs → (if t then 0 else suc (place_position xs p)) ≡ cond (not t) (1 + position_or_len (is_at p) xs) 0
    by true rest = refl
    by false rest = omega arith

pub place_position-is : (p : Place) (xs : List Placed) → place_position xs p ≡ position_or_len (table.is_at place_cmp own_place p) xs
place_position-is p xs = walked p xs ∙ same_test (is_at p) (table.is_at place_cmp own_place p) (λ x. sym (tied_places p x)) xs

-- ---- the order of a population

all_map : {A B : Type 0} (P : B → Type 0) (f : A → B) (each : (x : A) → P (f x)) (xs : List A) → AllByRecursion P (map f xs)
all_map P f each [] = tt
all_map P f each (x ∷ xs) = (each x, all_map P f each xs)

first_greater : (s t : Ordering) → is_gt s ≡ true → is_gt (ordering_then s t) ≡ true
first_greater s t h = ap (λ o. is_gt (ordering_then o t)) (is_gt-true s h)

-- all of a model stand after a place of an earlier one
pub all_later : (p : Place) (m : Counted) (is : List Instance) → is_gt (key_cmp m.model p.model) ≡ true → AllByRecursion (λ (y : Placed). is_after place_cmp own_place p y ≡ true) (map (placed m) is)
all_later p m is later =
    all_map (λ (y : Placed). is_after place_cmp own_place p y ≡ true) (placed m) (λ i. first_greater (key_cmp m.model p.model) (nat_cmp i.name p.instance) later) is

all_models_later : (p : Place) (ms : List Counted) → AllByRecursion (λ (m : Counted). is_gt (key_cmp m.model p.model) ≡ true) ms → AllByRecursion (λ (y : Placed). is_after place_cmp own_place p y ≡ true) (population ms)
all_models_later p [] later = tt
all_models_later p (m ∷ ms) later =
    all-append place_cmp own_place place_total (λ (y : Placed). is_after place_cmp own_place p y ≡ true) (placed_all m) (population ms) (all_later p m m.content.instances later.0) (all_models_later p ms later.1)

-- in a model the names tell
module _ (m : Counted) where
  later_name : (i j : Instance) → is_after nat_cmp instance_name i.name j ≡ true → is_after place_cmp own_place (placed m i).place (placed m j) ≡ true
  later_name i j later = ap (λ o. is_gt (ordering_then o (nat_cmp j.name i.name))) (tied_itself key_total m.model) ∙ later

  later_names : (i : Instance) (is : List Instance) → AllByRecursion (λ j. is_after nat_cmp instance_name i.name j ≡ true) is → AllByRecursion (λ (y : Placed). is_after place_cmp own_place (placed m i).place y ≡ true) (map (placed m) is)
  later_names i [] later = tt
  later_names i (j ∷ is) later = (later_name i j later.0, later_names i is later.1)

  -- a model's instances, with what stands after all of them
  followed : (is : List Instance) (ys : List Placed) → IsInOrder is → ((i : Instance) → AllByRecursion (λ (y : Placed). is_after place_cmp own_place (placed m i).place y ≡ true) ys)
      → IsAscending place_cmp own_place ys → IsAscending place_cmp own_place (map (placed m) is ++ ys)
  followed [] ys order later more = more
  followed (i ∷ is) ys order later more =
      (all-append place_cmp own_place place_total (λ (y : Placed). is_after place_cmp own_place (placed m i).place y ≡ true) (map (placed m) is) ys (later_names i is order.0) (later i), followed is ys order.1 later more)

ascending : (ms : List Counted) → IsAscending key_cmp counted_key ms → AllByRecursion (λ (m : Counted). IsSearchable m.content) ms → IsAscending place_cmp own_place (population ms)
ascending [] order searchable = tt
ascending (m ∷ ms) order searchable =
    followed m m.content.instances (population ms) searchable.0.instances (λ i. all_models_later (placed m i).place ms order.0) (ascending ms order.1 searchable.1)

pub population_ascends : (ms : List Counted) → AreInOrder ms → IsAscending place_cmp own_place (population ms)
population_ascends ms order = ascending ms order.models order.contents
