-- What stands for all that a SELECT chooses from.
use Rattle.std.proofs.Common.{◌≡◌, ◌<◌, ◌≤◌, ◌+◌, ℕ, Bool, true, false, not, ◌&&◌, ◌||◌, ◌==◌, nat_lt, List, [], ◌∷◌, length, filter, slice_get, Option, Some, None, option_map, ◌⊎◌, inl, inr, ⊎_elim, refl, sym, ◌∙◌, ap, arith}
use Rattle.std.proofs.lemmas.Bool.Decides.{nat_tests}
use Rattle.std.proofs.lemmas.Option.{slice_get_cases}
use Rattle.std.proofs.lemmas.List.Kept.{IsStrictlySortedBy-filter}
use Rattle.std.specs.List.{filter_map, cons_option}
use Rattle.std.specs.List.Sorted.{IsStrictlySortedBy}
use Rattle.std.specs.Option.{option_map_or}
use Rattle.std.specs.Ordering.{nat_cmp}
use Rattle.plain_data.specs.Numbers.{is_among}
use Rattle.plain_data.proofs.Numbers.{only_one}
use Rattle.ex_tree.specs.declared.data_type.SimpleType.TheVariants as s
use Rattle.ex_named.specs.declared.declaration.NamedType.{NamedType}
use Rattle.ex_named.specs.declared.declaration.NamedUnderlying.{NamedUnderlying}
use Rattle.ex_named.specs.declared.declaration.NamedUnderlying.TheVariants as u
use Rattle.ex_renamings.specs.Renamings.{end, is_listed, is_select}
use Rattle.graphs.specs.Graphs.{is_ancestor, family}
use Rattle.graphs.proofs.Families.{family_sorted, in_family, is_among-filter}
use Rattle.graphs.proofs.Sets.{or_left, or_right}
use Rattle.ancestors.proofs.Members.{same_keys}
use Rattle.ex_selects.specs.declared.sorts.Class.{Class}
use Rattle.ex_selects.specs.declared.sorts.Class.TheVariants as class
use Rattle.ex_selects.specs.declared.sorts.Sort.{Sort}
use Rattle.ex_selects.specs.declared.sorts.Sort.TheVariants as sort
use Rattle.ex_selects.specs.Ends.{Base, Plain, Instance, Aggregate, Enumeration, Select, Nothing, base_by, base_of, choices, selection}
use Rattle.ex_selects.specs.Kept.{single, suffices, IsCovered, StandFor, StandForClass, of_class}
use Rattle.ex_selects.specs.Levels.{chosen_aggregate, element}
use Rattle.ex_selects.specs.Shared.{shared, unrenamed}
use Rattle.ex_selects.specs.Sorts.{all_sorts, is_of, of_base, sort_at, sort_of}
use Rattle.ex_selects.proofs.Renamed.{choices_shared, many_shared, same_truth}
use Rattle.ex_selects.proofs.Standing.{both_true, first_true, second_true, two_of}
use Rattle.ex_selects.proofs.Tables.{map_get, numbered_index}

-- ---- the only one of several

record Pair (ks : List ℕ) : Type 0 where
  pub first : ℕ
  pub second : ℕ
  pub other : (second == first) ≡ false
  pub first_there : is_among ks first ≡ true
  pub second_there : is_among ks second ≡ true

in_one : (k x : ℕ) → (is_among (x ∷ []) k ≡ true) ⊎ Pair (x ∷ []) → x ≡ k
in_one k x (inl there) = only_one k x there
in_one k x (inr two) =
    let first = only_one two.first x two.first_there in
    let second = only_one two.second x two.second_there in
    let other = two.other in
    grind (arith, nat_tests)

here : (x : ℕ) (xs : List ℕ) → is_among (x ∷ xs) x ≡ true
here x xs = or_left (x == x) (is_among xs x) (grind (arith, nat_tests))

next : (x y : ℕ) (ys : List ℕ) → is_among (x ∷ y ∷ ys) y ≡ true
next x y ys = or_right (x == y) (is_among (y ∷ ys) y) (here y ys)

same_single : (xs ys : List ℕ) → IsStrictlySortedBy nat_cmp xs → IsStrictlySortedBy nat_cmp ys → ((k : ℕ) → is_among ys k ≡ true → is_among xs k ≡ true)
    → ((k : ℕ) → is_among xs k ≡ true → (is_among ys k ≡ true) ⊎ Pair ys) → single xs ≡ single ys
unfolding IsStrictlySortedBy
same_single [] [] up rise within covered = refl
same_single [] (b ∷ ys) up rise within covered = let no = within b (here b ys) in cc
same_single (a ∷ []) [] up rise within covered = elim (covered a (here a [])) [ inl there ↦ cc | inr two ↦ let no = two.first_there in cc ]
same_single (a ∷ []) (b ∷ []) up rise within covered = let same = only_one b a (within b (here b [])) in ap (λ k. Some k) same
same_single (a ∷ []) (b ∷ c ∷ ys) up rise within covered =
    let first = only_one b a (within b (here b (c ∷ ys))) in
    let second = only_one c a (within c (next b c ys)) in
    let less = rise.0.0 in
    absurd (grind (arith, nat_tests, less))
same_single (a ∷ b ∷ xs) [] up rise within covered = elim (covered a (here a (b ∷ xs))) [ inl there ↦ cc | inr two ↦ let no = two.first_there in cc ]
same_single (a ∷ b ∷ xs) (c ∷ []) up rise within covered =
    let first = in_one a c (covered a (here a (b ∷ xs))) in
    let second = in_one b c (covered b (next a b xs)) in
    let less = up.0.0 in
    absurd (grind (arith, nat_tests, less))
same_single (a ∷ b ∷ xs) (c ∷ d ∷ ys) up rise within covered = refl

module _ (sorts : List Sort) (all kept : List ℕ) (s : StandFor sorts all kept) (takes : ℕ → Bool)
    (alike : (j k : ℕ) → suffices (sort_at sorts j) ≡ true → sort_at sorts j ≡ sort_at sorts k → takes j ≡ takes k) where
  taken : (ks : List ℕ) (k : ℕ) → is_among ks k ≡ true → takes k ≡ true → is_among (filter takes ks) k ≡ true
  taken ks k there is = is_among-filter takes ks k ∙ both_true (is_among ks k) (takes k) there is

  covers : (k : ℕ) → takes k ≡ true → IsCovered sorts kept k → (is_among (filter takes kept) k ≡ true) ⊎ Pair (filter takes kept)
  covers k is (inl there) = inl (taken kept k there is)
  covers k is (inr two) =
      let t = two_of sorts kept (sort_at sorts k) two in
      let enough : (j : ℕ) → sort_at sorts j ≡ sort_at sorts k → takes j ≡ true = λ j same. alike j k (rw same t.enough) same ∙ is in
      inr (record {
        first = t.first;
        second = t.second;
        other = t.other;
        first_there = taken kept t.first t.first_there (enough t.first t.first_sort);
        second_there = taken kept t.second t.second_there (enough t.second t.second_sort);
      })

  -- the only one that passes is the same of those that stand for all
  pub lone_same : IsStrictlySortedBy nat_cmp all → single (filter takes all) ≡ single (filter takes kept)
  lone_same up =
      same_single (filter takes all) (filter takes kept) (IsStrictlySortedBy-filter nat_cmp takes all up) (IsStrictlySortedBy-filter nat_cmp takes kept s.ascend)
      (λ k there. let both = sym (is_among-filter takes kept k) ∙ there in
      taken all k (s.within k (first_true (is_among kept k) (takes k) both)) (second_true (is_among kept k) (takes k) both))
      (λ k there. let both = sym (is_among-filter takes all k) ∙ there in
      covers k (second_true (is_among all k) (takes k) both) (s.whole k (first_true (is_among all k) (takes k) both)))

-- ---- those that take nothing left out

passes : {X : Type 0} (f : ℕ → Option X) (p : ℕ → Bool) (k : ℕ) (is_kept : Bool) (xs : List ℕ) → p k ≡ is_kept → (is_kept ≡ false → f k ≡ None)
    → filter_map f (filter p xs) ≡ filter_map f xs → filter_map f (filter p (k ∷ xs)) ≡ filter_map f (k ∷ xs)
passes f p k true xs is none same = rw is (ap (cons_option (f k)) same)
passes f p k false xs is none same = rw (is, none refl) same

left_out : {X : Type 0} (f : ℕ → Option X) (p : ℕ → Bool) (xs : List ℕ) → ((k : ℕ) → is_among xs k ≡ true → p k ≡ false → f k ≡ None)
    → filter_map f (filter p xs) ≡ filter_map f xs
left_out f p [] none = refl
left_out f p (x ∷ xs) none =
    passes f p x (p x) xs refl (none x (here x xs)) (left_out f p xs (λ k there. none k (or_right (x == k) (is_among xs k) there)))

module _ (types : List NamedType) where
  -- ---- sorts of types

  lists_none : (o : Option NamedType) (number : ℕ) → option_map_or (λ x. is_listed x.underlying) o false ≡ true → option_map_or (λ x. base_by number x.underlying) o Nothing ≡ Select number
  lists_none None number e = cc
  lists_none (Some x) number e = by (x.underlying) e
    where
      by : (d : NamedUnderlying) → is_listed d ≡ true → base_by number d ≡ Select number
      by (u.Select members) e = refl
      by (u.Enumeration items) e = cc
      by (u.Data declared) e = cc

  select_base : (k : ℕ) → is_select types k ≡ true → base_of types k ≡ Select (end types k)
  select_base k e = lists_none (slice_get types (end types k)) (end types k) (sym (map_get (λ x. is_listed x.underlying) false types (end types k)) ∙ e)

  list_alone : (s : Sort) → is_of class.Lists s ≡ true → suffices s ≡ false
  list_alone sort.List e = refl
  list_alone sort.Nothing e = cc
  list_alone sort.Integer e = cc
  list_alone sort.Number e = cc
  list_alone sort.Real e = cc
  list_alone sort.Text e = cc
  list_alone sort.Binary e = cc
  list_alone sort.Item e = cc

  abbrev sorts : List Sort
  sorts = all_sorts types

  sorted_at : (k : ℕ) → (sort_at sorts k ≡ sort_of types k) ⊎ ((length types ≤ k) × (sort_at sorts k ≡ sort.Nothing))
  unfolding all_sorts
  sorted_at k =
      let found = numbered_index (λ number x. sort_of types number) sort.Nothing 0 types k in
      let same : 0 + k ≡ k = omega arith in
      ⊎_elim
      (λ here. inl (found ∙ ap (λ o. option_map_or (λ x. sort_of types (0 + k)) o sort.Nothing) here.2 ∙ ap (sort_of types) same))
      (λ past. inr (past.0, found ∙ ap (λ o. option_map_or (λ x. sort_of types (0 + k)) o sort.Nothing) past.1))
      (slice_get_cases types k).1

  in_types : (n k : ℕ) → is_among (family (shared types) n) k ≡ true → k < length types
  in_types n k there =
      let inside = first_true (nat_lt k (length (shared types))) (k == n || is_ancestor (shared types) n k) (sym (in_family (shared types) n k) ∙ there) in
      let many = many_shared types in
      grind (arith, nat_tests, inside, many)

  sorted_within : (n k : ℕ) → is_among (family (shared types) n) k ≡ true → sort_at sorts k ≡ sort_of types k
  sorted_within n k there = elim (sorted_at k) [
    | inl same ↦ same
    | inr past ↦ (let within = in_types n k there in let beyond = past.0 in let no : ⊥ = omega arith in absurd no)
  ]

  module _ {X : Type 0} (sought : Class) (f : ℕ → Option X) (selects : (k n : ℕ) → base_of types k ≡ Select n → f k ≡ None)
      (none : (k : ℕ) → is_of sought (of_base (base_of types k)) ≡ false → f k ≡ None) where
    pub all_same : (n : ℕ) → filter_map f (choices types n) ≡ filter_map f (of_class (shared types) sorts sought (unrenamed types n))
    all_same n =
        let all = family (shared types) (unrenamed types n) in
        ap (filter_map f) (choices_shared types n)
        ∙ left_out f (λ k. not (is_select types k)) all (λ k there e. selects k (end types k) (select_base k (not_false (is_select types k) e)))
        ∙ sym (left_out f (λ k. is_of sought (sort_at sorts k)) all (λ k there e.
        none k (rw (sorted_within (unrenamed types n) k there) at e)))
      where
        not_false : (b : Bool) → not b ≡ false → b ≡ true
        not_false true e = refl
        not_false false e = cc

  -- those of a class that a type chooses from ascend
  pub class_ascends : (sought : Class) (n : ℕ) → IsStrictlySortedBy nat_cmp (of_class (shared types) sorts sought n)
  class_ascends sought n = IsStrictlySortedBy-filter nat_cmp (λ k. is_of sought (sort_at sorts k)) (family (shared types) n) (family_sorted (shared types) n)

  -- where two of a sort stand for the others, it is that of a type
  pub sort_suffices : (k : ℕ) → suffices (sort_at sorts k) ≡ true → sort_at sorts k ≡ of_base (base_of types k)
  sort_suffices k e = elim (sorted_at k) [
    | inl same ↦ same
    | inr past ↦ (let no = sym (ap suffices past.1) ∙ e in cc)
  ]

  -- ---- lists

  exact : (n : ℕ) (kept : List ℕ) → StandForClass types class.Lists n kept → of_class (shared types) sorts class.Lists (unrenamed types n) ≡ kept
  exact n kept s =
      let all = of_class (shared types) sorts class.Lists (unrenamed types n) in
      let p : ℕ → Bool = λ k. is_of class.Lists (sort_at sorts k) in
      same_keys all kept (IsStrictlySortedBy-filter nat_cmp p (family (shared types) (unrenamed types n)) (family_sorted (shared types) (unrenamed types n))) s.ascend
      (λ k. same_truth (is_among all k) (is_among kept k)
      (λ there. elim (s.whole k there) [
        | inl kept ↦ kept
        | inr two ↦ (let alone = list_alone (sort_at sorts k) (second_true (is_among (family (shared types) (unrenamed types n)) k) (p k) (sym (is_among-filter p (family (shared types) (unrenamed types n)) k) ∙ there)) in
            let no = sym alone ∙ (two_of sorts kept (sort_at sorts k) two).enough in cc)
      ])
      (s.within k))

  no_element : (b : Base) → is_of class.Lists (of_base b) ≡ false → element types b ≡ None
  no_element (Plain s.Integer) e = refl
  no_element (Plain s.Number) e = refl
  no_element (Plain s.Real) e = refl
  no_element (Plain (s.String w)) e = refl
  no_element (Plain (s.Binary w)) e = refl
  no_element (Plain s.Boolean) e = refl
  no_element (Plain s.Logical) e = refl
  no_element Instance e = refl
  no_element (Aggregate kind low inner) e = cc
  no_element (Enumeration n) e = refl
  no_element (Select n) e = refl
  no_element Nothing e = refl

  pub asked_kept : (n : ℕ) (kept : List ℕ) → StandForClass types class.Lists n kept
      → filter_map (chosen_aggregate types) (choices types n) ≡ filter_map (chosen_aggregate types) kept
  asked_kept n kept s =
      all_same class.Lists (chosen_aggregate types) (λ k m is. ap (λ b. option_map (λ t. record { number = Some k; target = t }) (element types b)) is)
      (λ k e. ap (option_map (λ t. record { number = Some k; target = t })) (no_element (base_of types k) e)) n
      ∙ ap (filter_map (chosen_aggregate types)) (exact n kept s)

  -- ---- which are chosen

  pub chosen_none : (n k : ℕ) → is_select types k ≡ true → is_among (choices types n) k ≡ false
  unfolding choices
  chosen_none n k is = is_among-filter (λ j. not (is_select types j)) (family (selection types) n) k ∙ rw is (and_false (is_among (family (selection types) n) k))
    where
      and_false : (b : Bool) → (b && false) ≡ false
      and_false true = refl
      and_false false = refl

  pub chosen_among : (n k : ℕ) → is_select types k ≡ false → is_among (choices types n) k ≡ is_among (family (shared types) (unrenamed types n)) k
  chosen_among n k is =
      let all = family (shared types) (unrenamed types n) in
      ap (λ l. is_among l k) (choices_shared types n) ∙ is_among-filter (λ j. not (is_select types j)) all k ∙ rw is (and_true (is_among all k))
    where
      and_true : (b : Bool) → (b && true) ≡ b
      and_true true = refl
      and_true false = refl
