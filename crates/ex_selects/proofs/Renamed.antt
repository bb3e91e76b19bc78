-- A SELECT chooses the same once those that rename it have nothing of their own.
use Rattle.std.proofs.Common.{◌≡◌, ◌<◌, ◌≤◌, ◌+◌, ℕ, zero, suc, Bool, true, false, not, ◌&&◌, ◌||◌, ◌==◌, nat_lt, List, [], ◌∷◌, map, length, filter, slice_get, Option, Some, None, ◌⊎◌, inl, inr, ⊎_elim, refl, sym, ◌∙◌, ap, subst, arith}
use Rattle.std.proofs.lemmas.Bool.{cases_Bool, eq-eqb, eqb-true}
use Rattle.std.proofs.lemmas.Bool.Decides.{nat_tests}
use Rattle.std.proofs.lemmas.List.Kept.{IsStrictlySortedBy-filter}
use Rattle.std.proofs.lemmas.Option.{slice_get_cases, slice_get_past}
use Rattle.std.specs.List.{filter_map, list_any}
use Rattle.std.specs.Option.{option_map_or}
use Rattle.std.specs.Ordering.{nat_cmp}
use Rattle.plain_data.specs.Numbers.{is_among, numbered}
use Rattle.ex_named.specs.declared.declaration.NamedType.{NamedType}
use Rattle.ex_named.specs.declared.declaration.NamedUnderlying.{NamedUnderlying}
use Rattle.ex_named.specs.declared.declaration.NamedUnderlying.TheVariants as u
use Rattle.ex_renamings.specs.Leading.{is_marked}
use Rattle.ex_renamings.specs.Renamings.{end, is_listed, is_select, lists_members, renamed, renamed_by, renamed_times}
use Rattle.ex_renamings.proofs.Marks.{any_same, leading_at}
use Rattle.graphs.specs.Graphs.{supertypes, Reaches, IsAncestor, is_ancestor, family}
use Rattle.graphs.proofs.Bounded.{any_at, any_where, is_ancestor_exact}
use Rattle.graphs.proofs.Families.{family_sorted, in_family, is_among-filter}
use Rattle.graphs.proofs.Sets.{either, or_left, or_right}
use Rattle.ancestors.proofs.Members.{same_keys}
use Rattle.ex_selects.specs.Ends.{choices, chooses_instances, defined, is_entity, members, members_by, selection}
use Rattle.ex_selects.specs.Shared.{chosen_at_once, listing, lists_entity, shared, unrenamed, with_instances}
use Rattle.ex_selects.proofs.Standing.{both_true, first_true, second_true}
use Rattle.ex_selects.proofs.Tables.{map_get, numbered_index, numbered_length}

pub same_truth : (a b : Bool) → (a ≡ true → b ≡ true) → (b ≡ true → a ≡ true) → a ≡ b
same_truth true b h g = sym (h refl)
same_truth false true h g = g refl
same_truth false false h g = refl

among_map : (f : ℕ → ℕ) (xs : List ℕ) (m : ℕ) → is_among xs m ≡ true → is_among (map f xs) (f m) ≡ true
among_map f [] m there = cc
among_map f (x ∷ xs) m there = ⊎_elim
    (λ (is : (x == m) ≡ true). or_left (f x == f m) (is_among (map f xs) (f m)) (eq-eqb (f x) (f m) (ap f (eqb-true x m is))))
    (λ (later : is_among xs m ≡ true). or_right (f x == f m) (is_among (map f xs) (f m)) (among_map f xs m later))
    (either (x == m) (is_among xs m) there)

mapped_from : (f : ℕ → ℕ) (xs : List ℕ) (m : ℕ) → is_among (map f xs) m ≡ true → (k : ℕ) × ((f k ≡ m) × (is_among xs k ≡ true))
mapped_from f [] m there = cc
mapped_from f (x ∷ xs) m there = ⊎_elim
    (λ (is : (f x == m) ≡ true). (x, (eqb-true (f x) m is, or_left (x == x) (is_among xs x) (eq-eqb x x refl))))
    (λ (later : is_among (map f xs) m ≡ true). let found = mapped_from f xs m later in (found.0, (found.1.0, or_right (x == found.0) (is_among xs found.0) found.1.1)))
    (either (f x == m) (is_among (map f xs) m) there)

kept_true : (b : Bool) → not b ≡ true → b ≡ false
kept_true true e = cc
kept_true false e = refl

not_both : (b : Bool) → b ≡ true → b ≡ false → ⊥
not_both true e n = cc
not_both false e n = cc

module _ (types : List NamedType) where
  -- ---- a SELECT renames nothing

  stays_by : (d : NamedUnderlying) (k : ℕ) → is_listed d ≡ true → renamed_by k d ≡ k
  stays_by (u.Select members) k e = refl
  stays_by (u.Enumeration items) k e = cc
  stays_by (u.Data declared) k e = cc

  stays_at : (o : Option NamedType) (k : ℕ) → option_map_or (λ x. is_listed x.underlying) o false ≡ true → option_map_or (λ x. renamed_by k x.underlying) o k ≡ k
  stays_at None k e = cc
  stays_at (Some x) k e = stays_by (x.underlying) k e

  renamed_stays : (k : ℕ) → lists_members types k ≡ true → renamed types k ≡ k
  renamed_stays k e = map_get (λ x. renamed_by k x.underlying) k types k ∙ stays_at (slice_get types k) k (sym (map_get (λ x. is_listed x.underlying) false types k) ∙ e)

  times_stay : (n k : ℕ) → renamed types k ≡ k → renamed_times n types k ≡ k
  times_stay zero k e = refl
  times_stay (suc n) k e = ap (renamed types) (times_stay n k e) ∙ e

  end_stays : (k : ℕ) → lists_members types k ≡ true → end types k ≡ k
  unfolding end
  end_stays k e = times_stay (length types) k (renamed_stays k e)

  end_beyond : (k : ℕ) → length types ≤ k → end types k ≡ k
  unfolding end
  end_beyond k past = times_stay (length types) k
      (map_get (λ x. renamed_by k x.underlying) k types k ∙ ap (λ o. option_map_or (λ x. renamed_by k x.underlying) o k) (slice_get_past types k past))

  end_lists : (k : ℕ) → is_select types k ≡ true → lists_members types (end types k) ≡ true
  end_lists k e = e

  is_select_of : (k : ℕ) → is_select types k ≡ lists_members types (end types k)
  is_select_of k = refl

  lists_within : (k : ℕ) → lists_members types k ≡ true → k < length types
  lists_within k e = ⊎_elim (λ here. here.1)
      (λ past. let no = sym e ∙ map_get (λ x. is_listed x.underlying) false types k ∙ ap (λ o. option_map_or (λ x. is_listed x.underlying) o false) past.1 in cc)
      (slice_get_cases types k).1

  -- ---- what is no renaming of a SELECT

  renames : (k : ℕ) → is_select types k ≡ true → unrenamed types k ≡ end types k
  renames k is = rw is refl

  other : (k : ℕ) → is_select types k ≡ false → unrenamed types k ≡ k
  other k is = rw is refl

  end_twice : (k : ℕ) → is_select types k ≡ true → end types (end types k) ≡ end types k
  end_twice k is = end_stays (end types k) (end_lists k is)

  end_select : (k : ℕ) → is_select types k ≡ true → is_select types (end types k) ≡ true
  end_select k is = is_select_of (end types k) ∙ ap (lists_members types) (end_twice k is) ∙ end_lists k is

  pub unrenamed_twice : (k : ℕ) → unrenamed types (unrenamed types k) ≡ unrenamed types k
  unrenamed_twice k = ⊎_elim
      (λ (is : is_select types k ≡ true). ap (unrenamed types) (renames k is) ∙ renames (end types k) (end_select k is) ∙ end_twice k is ∙ sym (renames k is))
      (λ (is : is_select types k ≡ false). ap (unrenamed types) (other k is))
      (cases_Bool (is_select types k))

  end_unrenamed : (k : ℕ) → end types (unrenamed types k) ≡ end types k
  end_unrenamed k = ⊎_elim
      (λ (is : is_select types k ≡ true). ap (end types) (renames k is) ∙ end_twice k is)
      (λ (is : is_select types k ≡ false). ap (end types) (other k is))
      (cases_Bool (is_select types k))

  members_same : (k : ℕ) → members types (unrenamed types k) ≡ members types k
  members_same k = ap (λ n. option_map_or (λ x. members_by x.underlying) (slice_get types n) []) (end_unrenamed k)

  still_no_select : (k n : ℕ) → unrenamed types k ≡ n → is_select types n ≡ false → k ≡ n
  still_no_select k n is none = ⊎_elim
      (λ (select : is_select types k ≡ true). absurd (not_both (is_select types n) (rw (← is, renames k select) (end_select k select)) none))
      (λ (no : is_select types k ≡ false). sym (other k no) ∙ is)
      (cases_Bool (is_select types k))

  within_on : (k : ℕ) → k < length types → unrenamed types k < length types
  within_on k within = ⊎_elim
      (λ (is : is_select types k ≡ true). rw (renames k is) (lists_within (end types k) (end_lists k is)))
      (λ (is : is_select types k ≡ false). rw (other k is) within)
      (cases_Bool (is_select types k))

  within_back : (k : ℕ) → unrenamed types k < length types → k < length types
  within_back k within = ⊎_elim (λ here. here.1)
      (λ past. ⊎_elim
      (λ (is : is_select types k ≡ true). lists_within k (rw (← end_beyond k past.0) (end_lists k is)))
      (λ (is : is_select types k ≡ false). rw (← other k is) within)
      (cases_Bool (is_select types k)))
      (slice_get_cases types k).1

  -- ---- rows

  module _ (f : ℕ → List ℕ) where
    abbrev rows : List (List ℕ)
    rows = numbered (λ number x. f number) types

    many : length rows ≡ length types
    many = numbered_length (λ number x. f number) 0 types

    row : (n : ℕ) → supertypes rows n ≡ option_map_or (λ x. f n) (slice_get types n) []
    row n =
        let same : 0 + n ≡ n = omega arith in
        numbered_index (λ number x. f number) [] 0 types n ∙ ap (λ k. option_map_or (λ x. f k) (slice_get types n) []) same

    row_has : (n m : ℕ) → n < length types → is_among (f n) m ≡ true → is_among (supertypes rows n) m ≡ true
    row_has n m within there = ⊎_elim
        (λ here. ap (λ l. is_among l m) (row n ∙ ap (λ o. option_map_or (λ x. f n) o []) here.2) ∙ there)
        (λ past. let beyond = past.0 in let no : ⊥ = omega arith in absurd no)
        (slice_get_cases types n).1

    in_row : (n m : ℕ) → is_among (supertypes rows n) m ≡ true → (n < length types) × (is_among (f n) m ≡ true)
    in_row n m there = ⊎_elim
        (λ here. (here.1, sym (ap (λ l. is_among l m) (row n ∙ ap (λ o. option_map_or (λ x. f n) o []) here.2)) ∙ there))
        (λ past. let no = sym there ∙ ap (λ l. is_among l m) (row n ∙ ap (λ o. option_map_or (λ x. f n) o []) past.1) in cc)
        (slice_get_cases types n).1

  chosen_row : (n : ℕ) → chosen_at_once types (unrenamed types n) ≡ map (unrenamed types) (filter_map defined (members types n))
  chosen_row n = rw (unrenamed_twice n, eq-eqb (unrenamed types n) (unrenamed types n) refl, members_same n) refl

  step_on : (n m : ℕ) → is_among (supertypes (selection types) n) m ≡ true → is_among (supertypes (shared types) (unrenamed types n)) (unrenamed types m) ≡ true
  unfolding selection shared
  step_on n m there =
      let found = in_row (λ k. filter_map defined (members types k)) n m there in
      row_has (chosen_at_once types) (unrenamed types n) (unrenamed types m) (within_on n found.0)
      (ap (λ l. is_among l (unrenamed types m)) (chosen_row n) ∙ among_map (unrenamed types) (filter_map defined (members types n)) m found.1)

  step_back : (n m : ℕ) → is_among (supertypes (shared types) (unrenamed types n)) m ≡ true
      → (k : ℕ) × ((unrenamed types k ≡ m) × (is_among (supertypes (selection types) n) k ≡ true))
  unfolding selection shared
  step_back n m there =
      let found = in_row (chosen_at_once types) (unrenamed types n) m there in
      let from = mapped_from (unrenamed types) (filter_map defined (members types n)) m (sym (ap (λ l. is_among l m) (chosen_row n)) ∙ found.1) in
      (from.0, (from.1.0, row_has (λ k. filter_map defined (members types k)) n from.0 (within_back n found.0) from.1.1))

  -- ---- ways

  way_on : (j n k : ℕ) → Reaches (selection types) j n k → Reaches (shared types) j (unrenamed types n) (unrenamed types k)
  way_on zero n k way = step_on n k way
  way_on (suc j) n k (m, (step, way)) = (unrenamed types m, (step_on n m step, way_on j m k way))

  way_back : (j n k : ℕ) → Reaches (shared types) j (unrenamed types n) k → (i : ℕ) × ((unrenamed types i ≡ k) × Reaches (selection types) j n i)
  way_back zero n k way = step_back n k way
  way_back (suc j) n k (m, (step, way)) =
      let first = step_back n m step in
      let later = way_back j first.0 k (rw first.1.0 way) in
      (later.0, (later.1.0, (first.0, (first.1.1, later.1.1))))

  many_listed : length (selection types) ≡ length types
  unfolding selection
  many_listed = many (λ k. filter_map defined (members types k))

  pub many_shared : length (shared types) ≡ length types
  unfolding shared
  many_shared = many (chosen_at_once types)

  in_one : (graph : List (List ℕ)) (n k : ℕ) → length graph ≡ length types → k < length types → (k ≡ n) ⊎ IsAncestor graph n k → is_among (family graph n) k ≡ true
  in_one graph n k as_many within way =
      let inside : nat_lt k (length graph) ≡ true = grind (arith, nat_tests, as_many, within) in
      in_family graph n k ∙ both_true (nat_lt k (length graph)) (k == n || is_ancestor graph n k) inside (⊎_elim
      (λ (is : k ≡ n). or_left (k == n) (is_ancestor graph n k) (eq-eqb k n is))
      (λ (above : IsAncestor graph n k). or_right (k == n) (is_ancestor graph n k) ((is_ancestor_exact graph n k).1 above))
      way)

  of_one : (graph : List (List ℕ)) (n k : ℕ) → length graph ≡ length types → is_among (family graph n) k ≡ true → (k < length types) × ((k ≡ n) ⊎ IsAncestor graph n k)
  of_one graph n k as_many there =
      let both = sym (in_family graph n k) ∙ there in
      let inside = first_true (nat_lt k (length graph)) (k == n || is_ancestor graph n k) both in
      let within : k < length types = grind (arith, nat_tests, as_many, inside) in (
        within,
        ⊎_elim
            (λ (is : (k == n) ≡ true). inl (eqb-true k n is))
            (λ (above : is_ancestor graph n k ≡ true). inr ((is_ancestor_exact graph n k).0 above))
            (either (k == n) (is_ancestor graph n k) (second_true (nat_lt k (length graph)) (k == n || is_ancestor graph n k) both)),
      )

  family_on : (n k : ℕ) → is_among (family (selection types) n) k ≡ true → is_among (family (shared types) (unrenamed types n)) (unrenamed types k) ≡ true
  family_on n k there =
      let told = of_one (selection types) n k many_listed there in
      in_one (shared types) (unrenamed types n) (unrenamed types k) many_shared (within_on k told.0) (⊎_elim
      (λ (is : k ≡ n). inl (ap (unrenamed types) is))
      (λ (above : IsAncestor (selection types) n k). inr (above.0, way_on above.0 n k above.1))
      told.1)

  family_back : (n k : ℕ) → is_among (family (shared types) (unrenamed types n)) k ≡ true
      → (i : ℕ) × ((unrenamed types i ≡ k) × (is_among (family (selection types) n) i ≡ true))
  family_back n k there =
      let told = of_one (shared types) (unrenamed types n) k many_shared there in
      ⊎_elim
      (λ (is : k ≡ unrenamed types n). (n, (sym is, in_one (selection types) n n many_listed (within_back n (rw is at told.0)) (inl refl))))
      (λ (above : IsAncestor (shared types) (unrenamed types n) k).
      let from = way_back above.0 n k above.1 in
      (from.0, (from.1.0, in_one (selection types) n from.0 many_listed (within_back from.0 (rw (← from.1.0) at told.0)) (inr (above.0, from.1.1)))))
      told.1

  -- ---- what is chosen

  abbrev no_select : ℕ → Bool
  no_select k = not (is_select types k)

  pub choices_shared : (n : ℕ) → choices types n ≡ filter (λ k. not (is_select types k)) (family (shared types) (unrenamed types n))
  unfolding choices
  choices_shared n =
      let all = family (selection types) n in
      let kept = family (shared types) (unrenamed types n) in
      same_keys (filter no_select all) (filter no_select kept)
      (IsStrictlySortedBy-filter nat_cmp no_select all (family_sorted (selection types) n))
      (IsStrictlySortedBy-filter nat_cmp no_select kept (family_sorted (shared types) (unrenamed types n)))
      (λ k. is_among-filter no_select all k
      ∙ same_truth (is_among all k && no_select k) (is_among kept k && no_select k)
      (λ both.
      let no = second_true (is_among all k) (no_select k) both in
      let there = family_on n k (first_true (is_among all k) (no_select k) both) in
      both_true (is_among kept k) (no_select k) (subst (λ j. is_among kept j ≡ true) (other k (kept_true (is_select types k) no)) there) no)
      (λ both.
      let no = second_true (is_among kept k) (no_select k) both in
      let from = family_back n k (first_true (is_among kept k) (no_select k) both) in
      let same = still_no_select from.0 k from.1.0 (kept_true (is_select types k) no) in
      both_true (is_among all k) (no_select k) (subst (λ j. is_among all j ≡ true) same from.1.1) no)
      ∙ sym (is_among-filter no_select kept k))

  abbrev lists : ℕ → Bool
  lists k = list_any is_entity (members types k)

  lists_same : (k : ℕ) → lists (unrenamed types k) ≡ lists k
  lists_same k = ap (list_any is_entity) (members_same k)

  instances_shared : (n : ℕ) → chooses_instances types n ≡ list_any (lists_entity types) (family (shared types) (unrenamed types n))
  unfolding chooses_instances
  instances_shared n =
      let all = family (selection types) n in
      let kept = family (shared types) (unrenamed types n) in
      same_truth (list_any lists all) (list_any (lists_entity types) kept)
      (λ some.
      let found = any_where lists all some in
      let k = found.0 in
      any_at (lists_entity types) kept (unrenamed types k) (family_on n k found.1.0)
      (both_true (unrenamed types (unrenamed types k) == unrenamed types k) (lists (unrenamed types k))
      (eq-eqb (unrenamed types (unrenamed types k)) (unrenamed types k) (unrenamed_twice k)) (lists_same k ∙ found.1.1)))
      (λ some.
      let found = any_where (lists_entity types) kept some in
      let from = family_back n found.0 found.1.0 in
      any_at lists all from.0 from.1.1
      (sym (lists_same from.0) ∙ ap lists from.1.0 ∙ second_true (unrenamed types found.0 == found.0) (lists found.0) found.1.1))

  -- ---- which lead to a type that lists an entity

  none_beyond : (k : ℕ) → length types ≤ k → lists_entity types k ≡ false
  none_beyond k past =
      let at_itself = ap (λ n. option_map_or (λ x. members_by x.underlying) (slice_get types n) []) (end_beyond k past) in
      let none = ap (λ o. option_map_or (λ x. members_by x.underlying) o []) (slice_get_past types k past) in
      ap (λ l. (unrenamed types k == k) && list_any is_entity l) (at_itself ∙ none) ∙ and_false (unrenamed types k == k)
    where
      and_false : (b : Bool) → (b && false) ≡ false
      and_false true = refl
      and_false false = refl

  listing_at : (k : ℕ) → is_marked (listing types) k ≡ lists_entity types k
  unfolding listing
  listing_at k =
      let same : 0 + k ≡ k = omega arith in
      numbered_index (λ number x. lists_entity types number) false 0 types k ∙ ap (λ j. option_map_or (λ x. lists_entity types j) (slice_get types k) false) same
      ∙ ⊎_elim
      (λ here. ap (λ o. option_map_or (λ x. lists_entity types k) o false) here.2)
      (λ past. ap (λ o. option_map_or (λ x. lists_entity types k) o false) past.1 ∙ sym (none_beyond k past.0))
      (slice_get_cases types k).1

  pub instances_marked : (n : ℕ) → is_marked (with_instances types) (unrenamed types n) ≡ chooses_instances types n
  unfolding with_instances
  instances_marked n =
      leading_at (shared types) (listing types) (unrenamed types n)
      ∙ any_same (is_marked (listing types)) (lists_entity types) listing_at (family (shared types) (unrenamed types n))
      ∙ sym (instances_shared n)
