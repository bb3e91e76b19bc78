-- Whether an instance of a population stands at a place, told by a look at one model alone.
use Rattle.std.proofs.Common.{◌≡◌, ℕ, Bool, ◌&&◌, ◌||◌, ◌==◌, true, false, List, [], ◌∷◌, map, Option, Some, None, is_some, refl, sym, ◌∙◌, ap, arith}
use Rattle.std.specs.Prelude.{filter, if◌then◌else◌}
use Rattle.std.specs.List.{find, list_any}
use Rattle.std.proofs.lemmas.Bool.Decides.{nat_tests}
use Rattle.std.proofs.lemmas.List.Folds.{list_any-append}
use Rattle.sorted_tables.specs.Table.{IsAscending}
use Rattle.sorted_tables.proofs.Searching.{chosen}
use Rattle.rp_content.specs.declared.instance.Instance.{Instance}
use Rattle.rp_rows.specs.Rows.{key_cmp, same_key, row_key, is_row, Model, GroupRow}
use Rattle.rp_rows.specs.Sight.{counts}
use Rattle.rp_population.specs.declared.place.Place.{Place}
use Rattle.rp_population.specs.Populations.{Counted, placed, placed_all, population, has_place, is_at}
use Rattle.rp_plain.specs.Readers.{as_counted, counted_in}
use Rattle.rp_readers.proofs.Counts.{same_at}
use Rattle.rp_readers.proofs.Looking.{seen_found}

same_number : (n m : ℕ) → (n == m) ≡ (m == n)
same_number n m = grind (arith, nat_tests)

abbrev has_name : ℕ → List Instance → Bool
has_name n is = list_any (λ (i : Instance). i.name == n) is

at_place : (p : Place) (m : Counted) (is : List Instance) → list_any (is_at p) (map (placed m) is) ≡ (same_key p.model m.model && has_name p.instance is)
at_place p m [] = nothing (same_key p.model m.model)
  where
    nothing : (t : Bool) → false ≡ (t && false)
    nothing true = refl
    nothing false = refl
at_place p m (i ∷ is) = by (same_key p.model m.model) (at_place p m is)
  where
    by : (t : Bool) → list_any (is_at p) (map (placed m) is) ≡ (t && has_name p.instance is)
        → ((t && p.instance == i.name) || list_any (is_at p) (map (placed m) is)) ≡ (t && (i.name == p.instance || has_name p.instance is))
    by true rest = λ k. same_number p.instance i.name k || rest k
    by false rest = rest

is_found : {X : Type 0} (q : X → Bool) (xs : List X) → is_some (find q xs) ≡ list_any q xs
is_found q [] = refl
is_found q (x ∷ xs) = by (q x) (is_found q xs)
  where
    by : (t : Bool) → is_some (find q xs) ≡ list_any q xs → is_some (if t then Some x else find q xs) ≡ (t || list_any q xs)
    by true rest = refl
    by false rest = rest

none_more : (t u : Bool) → u ≡ ((t && false) || u)
none_more true u = refl
none_more false u = refl

module _ (p : Place) (g : GroupRow) where
  -- the model counts, and has the instance
  abbrev pub counts_with : Model → Bool
  counts_with m = counts m g && has_name p.instance m.holds.content.instances

  -- an instance of one that counts stands at the place, exactly if it is the place's model and has the instance
  any_standing : (ms : List Model) → has_place (population (counted_in ms (Some g))) p ≡ list_any (λ m. is_row p.model m && counts_with m) ms
  any_standing [] = refl
  any_standing (m ∷ ms) = by (counts m g) (any_standing ms)
    where
      rest : List Model
      rest = filter (λ n. counts n g) ms

      by : (t : Bool) → has_place (population (counted_in ms (Some g))) p ≡ list_any (λ n. is_row p.model n && counts_with n) ms
          → has_place (population (map as_counted (if t then m ∷ rest else rest))) p
          ≡ ((is_row p.model m && (t && has_name p.instance m.holds.content.instances)) || list_any (λ n. is_row p.model n && counts_with n) ms)
      by true standing =
          list_any-append (is_at p) (placed_all (as_counted m)) (population (map as_counted rest))
          ∙ (λ k. at_place p (as_counted m) m.holds.content.instances k || standing k)
          ∙ ap (λ t. (t && has_name p.instance m.holds.content.instances) || list_any (λ n. is_row p.model n && counts_with n) ms) (same_at p.model m)
      by false standing = standing ∙ none_more (is_row p.model m) (list_any (λ n. is_row p.model n && counts_with n) ms)

  chosen_some : (m : Model) → is_some (chosen counts_with (Some m)) ≡ counts_with m
  chosen_some m = by (counts_with m)
    where
      by : (t : Bool) → is_some (if t then Some m else None) ≡ t
      by true = refl
      by false = refl

  module _ (ms : List Model) (order : IsAscending key_cmp row_key ms) where
    standing_found : (found : Option Model) → found ≡ find (is_row p.model) ms → is_some (chosen counts_with found) ≡ has_place (population (counted_in ms (Some g))) p
    standing_found found is =
        ap is_some (seen_found p.model counts_with ms found order is) ∙ is_found (λ m. is_row p.model m && counts_with m) ms ∙ sym (any_standing ms)

    -- the model of the place counts and has the instance, or it doesn't
    pub stands_there : (m : Model) → Some m ≡ find (is_row p.model) ms → counts_with m ≡ has_place (population (counted_in ms (Some g))) p
    stands_there m is = sym (chosen_some m) ∙ standing_found (Some m) is

    -- there is no such model
    pub stands_nowhere : None ≡ find (is_row p.model) ms → false ≡ has_place (population (counted_in ms (Some g))) p
    stands_nowhere is = standing_found None is
