-- What stands for others among numbers, and for all of a class in a family.
use Rattle.std.proofs.Common.{◌≡◌, ◌<◌, ℕ, zero, suc, ◌+◌, Bool, true, false, not, ◌&&◌, ◌||◌, ◌==◌, nat_lt, List, [], ◌∷◌, ◌++◌, length, take, get_or, Option, Some, None, ◌⊎◌, inl, inr, ⊎_elim, refl, sym, ◌∙◌, ap, subst, arith}
use Rattle.std.proofs.lemmas.Bool.{eq-eqb, eqb-true}
use Rattle.std.proofs.lemmas.Bool.Decides.{nat_tests}
use Rattle.std.proofs.lemmas.List.{take_more}
use Rattle.std.specs.Prelude.{⊤, MatchOption, is_some, slice_index_or}
use Rattle.std.specs.List.{AllByRecursion}
use Rattle.std.specs.List.Sorted.{IsStrictlySortedBy}
use Rattle.std.specs.Option.{option_map_or}
use Rattle.std.specs.Ordering.{nat_cmp}
use Rattle.std.specs.declared.cmp.Ordering.TheVariants.{Less}
use Rattle.plain_data.specs.Numbers.{is_among}
use Rattle.plain_data.proofs.Numbers.{only_one}
use Rattle.graphs.specs.Graphs.{family, supertypes, IsAncestor, is_ancestor, Reaches}
use Rattle.graphs.proofs.Bounded.{any_at, any_where, is_ancestor_exact}
use Rattle.graphs.proofs.Families.{in_family, is_among-filter}
use Rattle.graphs.proofs.Search.{ancestor_direct}
use Rattle.graphs.proofs.Sets.{either, in_either, in_first, in_last, or_left, or_right}
use Rattle.ex_selects.specs.declared.sorts.Class.{Class}
use Rattle.ex_selects.specs.declared.sorts.Sort.{Sort}
use Rattle.ex_selects.specs.declared.sorts.Sort.TheVariants as sort
use Rattle.ex_selects.specs.Sorts.{sort_at, is_of}
use Rattle.ex_selects.specs.Kept.{suffices, rank, is_same, has_other, has_pair, has_two, IsCovered, StandFor, kept_in, IsUnited, of_class, IsTable}

pub both_true : (a b : Bool) → a ≡ true → b ≡ true → (a && b) ≡ true
both_true a b x y = rw (x, y) refl

pub first_true : (a b : Bool) → (a && b) ≡ true → a ≡ true
first_true true b e = refl
first_true false b e = e

pub second_true : (a b : Bool) → (a && b) ≡ true → b ≡ true
second_true true b e = e
second_true false b e = cc

none_true : (a : Bool) → not a ≡ true → a ≡ false
none_true true e = cc
none_true false e = refl

-- ---- two of a sort

abbrev of_rank : ℕ → Sort
of_rank n = slice_index_or (sort.Nothing ∷ sort.Integer ∷ sort.Number ∷ sort.Real ∷ sort.Text ∷ sort.Binary ∷ sort.Item ∷ []) n sort.List

ranked : (a : Sort) → of_rank (rank a) ≡ a
ranked sort.Nothing = refl
ranked sort.Integer = refl
ranked sort.Number = refl
ranked sort.Real = refl
ranked sort.Text = refl
ranked sort.Binary = refl
ranked sort.Item = refl
ranked sort.List = refl

pub same_sort : (a b : Sort) → is_same a b ≡ true → a ≡ b
same_sort a b e = sym (ranked a) ∙ ap of_rank (eqb-true (rank a) (rank b) e) ∙ ranked b

is_itself : (a : Sort) → is_same a a ≡ true
is_itself a = eq-eqb (rank a) (rank a) refl

module _ (sorts : List Sort) where
  -- two that are not the same are among them, and of this sort
  pub record Two (kept : List ℕ) (sort : Sort) : Type 0 where
    pub enough : suffices sort ≡ true
    pub first : ℕ
    pub second : ℕ
    pub other : (second == first) ≡ false
    pub first_there : is_among kept first ≡ true
    pub second_there : is_among kept second ≡ true
    pub first_sort : sort_at sorts first ≡ sort
    pub second_sort : sort_at sorts second ≡ sort

  pub two_of : (kept : List ℕ) (sort : Sort) → has_two sorts kept sort ≡ true → Two kept sort
  two_of kept sort e =
      let one = any_where (λ k. is_same (sort_at sorts k) sort && has_other sorts kept sort k) kept (second_true (suffices sort) (has_pair sorts kept sort) e) in
      let here = first_true (is_same (sort_at sorts one.0) sort) (has_other sorts kept sort one.0) one.1.1 in
      let more = any_where (λ k. not (k == one.0) && is_same (sort_at sorts k) sort) kept (second_true (is_same (sort_at sorts one.0) sort) (has_other sorts kept sort one.0) one.1.1) in
      record {
        enough = first_true (suffices sort) (has_pair sorts kept sort) e;
        first = one.0;
        second = more.0;
        other = none_true (more.0 == one.0) (first_true (not (more.0 == one.0)) (is_same (sort_at sorts more.0) sort) more.1.1);
        first_there = one.1.0;
        second_there = more.1.0;
        first_sort = same_sort (sort_at sorts one.0) sort here;
        second_sort = same_sort (sort_at sorts more.0) sort (second_true (not (more.0 == one.0)) (is_same (sort_at sorts more.0) sort) more.1.1);
      }

  pub are_two : (kept : List ℕ) (sort : Sort) → Two kept sort → has_two sorts kept sort ≡ true
  are_two kept sort t =
      let other : (not (t.second == t.first) && is_same (sort_at sorts t.second) sort) ≡ true = rw (t.other, t.second_sort) (is_itself sort) in
      let beside : has_other sorts kept sort t.first ≡ true = any_at (λ k. not (k == t.first) && is_same (sort_at sorts k) sort) kept t.second t.second_there other in
      let here : (is_same (sort_at sorts t.first) sort && has_other sorts kept sort t.first) ≡ true =
      both_true (is_same (sort_at sorts t.first) sort) (has_other sorts kept sort t.first) (rw t.first_sort (is_itself sort)) beside in
      both_true (suffices sort) (has_pair sorts kept sort) t.enough (any_at (λ k. is_same (sort_at sorts k) sort && has_other sorts kept sort k) kept t.first t.first_there here)

  two_more : (kept more : List ℕ) (sort : Sort) → ((k : ℕ) → is_among kept k ≡ true → is_among more k ≡ true) → has_two sorts kept sort ≡ true → has_two sorts more sort ≡ true
  two_more kept more sort all e =
      let t = two_of kept sort e in
      are_two more sort (record {
        enough = t.enough;
        first = t.first;
        second = t.second;
        other = t.other;
        first_there = all t.first t.first_there;
        second_there = all t.second t.second_there;
        first_sort = t.first_sort;
        second_sort = t.second_sort;
      })

  covered_more : (kept more : List ℕ) (k : ℕ) → ((j : ℕ) → is_among kept j ≡ true → is_among more j ≡ true) → IsCovered sorts kept k → IsCovered sorts more k
  covered_more kept more k all (inl there) = inl (all k there)
  covered_more kept more k all (inr two) = inr (two_more kept more (sort_at sorts k) all two)

  -- what stands for numbers that have two of a sort has one of that sort, or two
  covered_two : (kept : List ℕ) (k j : ℕ) (sort : Sort) → suffices sort ≡ true → (j == k) ≡ false → sort_at sorts k ≡ sort → sort_at sorts j ≡ sort
      → IsCovered sorts kept k → IsCovered sorts kept j → has_two sorts kept sort ≡ true
  covered_two kept k j sort enough other is_k is_j (inr two) second = rw is_k at two
  covered_two kept k j sort enough other is_k is_j (inl there) (inr two) = rw is_j at two
  covered_two kept k j sort enough other is_k is_j (inl there) (inl there_too) = are_two kept sort (record {
    enough = enough;
    first = k;
    second = j;
    other = other;
    first_there = there;
    second_there = there_too;
    first_sort = is_k;
    second_sort = is_j;
  })

  -- ---- one number after the other

  pub stand_skip : (all kept : List ℕ) (x : ℕ) → StandFor sorts all kept → has_two sorts kept (sort_at sorts x) ≡ true → StandFor sorts (all ++ x ∷ []) kept
  stand_skip all kept x s two = record {
    ascend = s.ascend;
    within = λ k there. in_first all (x ∷ []) k (s.within k there);
    whole = λ k there. ⊎_elim
        (λ (before : is_among all k ≡ true). s.whole k before)
        (λ (last : is_among (x ∷ []) k ≡ true). rw (← only_one k x last) (inr two))
        (in_either all (x ∷ []) k there);
  }

  pub stand_push : (all kept : List ℕ) (x : ℕ) → StandFor sorts all kept → IsStrictlySortedBy nat_cmp (kept ++ x ∷ []) → StandFor sorts (all ++ x ∷ []) (kept ++ x ∷ [])
  stand_push all kept x s up = record {
    ascend = up;
    within = λ k there. ⊎_elim
        (λ (before : is_among kept k ≡ true). in_first all (x ∷ []) k (s.within k before))
        (λ (last : is_among (x ∷ []) k ≡ true). rw (← only_one k x last) (in_last all x))
        (in_either kept (x ∷ []) k there);
    whole = λ k there. ⊎_elim
        (λ (before : is_among all k ≡ true). covered_more kept (kept ++ x ∷ []) k (λ j. in_first kept (x ∷ []) j) (s.whole k before))
        (λ (last : is_among (x ∷ []) k ≡ true). rw (← only_one k x last) (inl (in_last kept x)))
        (in_either all (x ∷ []) k there);
  }

-- ---- numbers that ascend

all_more : (n x : ℕ) (ks : List ℕ) → AllByRecursion (λ y. nat_cmp n y ≡ Less) ks → n < x → AllByRecursion (λ y. nat_cmp n y ≡ Less) (ks ++ x ∷ [])
all_more n x [] all less = (grind (arith, nat_tests), tt)
all_more n x (k ∷ ks) all less = (all.0, all_more n x ks all.1 less)

ascend_more : (ks : List ℕ) (x : ℕ) → IsStrictlySortedBy nat_cmp ks → ((k : ℕ) → is_among ks k ≡ true → k < x) → IsStrictlySortedBy nat_cmp (ks ++ x ∷ [])
unfolding IsStrictlySortedBy
ascend_more [] x up below = (tt, tt)
ascend_more (k ∷ ks) x up below = (
  all_more k x ks up.0 (below k (or_left (k == k) (is_among ks k) (eq-eqb k k refl))),
  ascend_more ks x up.1 (λ j there. below j (or_right (k == j) (is_among ks j) there)),
)

all_at : (n : ℕ) (ks : List ℕ) (i d : ℕ) → AllByRecursion (λ y. nat_cmp n y ≡ Less) ks → i < length ks → n < get_or ks i d
all_at n [] i d all within = let no : ⊥ = omega arith in absurd no
all_at n (k ∷ ks) zero d all within = let less = all.0 in grind (arith, nat_tests)
all_at n (k ∷ ks) (suc i) d all within = all_at n ks i d all.1 (omega arith)

pub before : (ks : List ℕ) (i d : ℕ) → IsStrictlySortedBy nat_cmp ks → i < length ks → (k : ℕ) → is_among (take i ks) k ≡ true → k < get_or ks i d
unfolding IsStrictlySortedBy
before [] i d up within k there = let no : ⊥ = omega arith in absurd no
before (n ∷ ks) zero d up within k there = cc
before (n ∷ ks) (suc i) d up within k there = ⊎_elim
    (λ (is : (n == k) ≡ true). rw (← eqb-true n k is) (all_at n ks i d up.0 (omega arith)))
    (λ (later : is_among (take i ks) k ≡ true). before ks i d up.1 (omega arith) k later)
    (either (n == k) (is_among (take i ks) k) there)

pub stand_none : (sorts : List Sort) → StandFor sorts [] []
unfolding IsStrictlySortedBy
stand_none sorts = record { ascend = tt; within = λ k there. there; whole = λ k there. cc }

module _ (sorts : List Sort) (numbers kept : List ℕ) (i x : ℕ) (up : IsStrictlySortedBy nat_cmp numbers) (within : i < length numbers) (is : x ≡ get_or numbers i 0)
    (s : StandFor sorts (take i numbers) kept) where
  pub thin_push : (more : List ℕ) → more ≡ kept ++ x ∷ [] → StandFor sorts (take (i + 1) numbers) more
  thin_push more e =
      rw (e, take_more numbers i 0 within, ← is) (stand_push sorts (take i numbers) kept x s
      (ascend_more kept x s.ascend (λ k there. rw is (before numbers i 0 up within k (s.within k there)))))

  pub thin_skip : has_two sorts kept (sort_at sorts x) ≡ true → StandFor sorts (take (i + 1) numbers) kept
  thin_skip two = rw (take_more numbers i 0 within, ← is) (stand_skip sorts (take i numbers) kept x s two)

-- ---- a family

module _ (graph : List (List ℕ)) (e : ℕ) where
  step_up : (m k : ℕ) → is_among (supertypes graph e) m ≡ true → is_among (family graph m) k ≡ true → is_among (family graph e) k ≡ true
  step_up m k listed there =
      let told = sym (in_family graph m k) ∙ there in
      let inside = first_true (nat_lt k (length graph)) (k == m || is_ancestor graph m k) told in
      let above : IsAncestor graph e k = ⊎_elim
      (λ (is : (k == m) ≡ true). ancestor_direct graph e k (rw (eqb-true k m is) listed))
      (λ (later : is_ancestor graph m k ≡ true). let way = (is_ancestor_exact graph m k).0 later in (suc way.0, (m, (listed, way.1))))
      (either (k == m) (is_ancestor graph m k) (second_true (nat_lt k (length graph)) (k == m || is_ancestor graph m k) told)) in
      in_family graph e k ∙ both_true (nat_lt k (length graph)) (k == e || is_ancestor graph e k) inside (or_right (k == e) (is_ancestor graph e k) ((is_ancestor_exact graph e k).1 above))

  abbrev StepsDown : ℕ → Type 0
  StepsDown k = (m : ℕ) × ((is_among (supertypes graph e) m ≡ true) × (is_among (family graph m) k ≡ true))

  way_down : (k n : ℕ) → nat_lt k (length graph) ≡ true → Reaches graph n e k → StepsDown k
  way_down k zero inside listed = (k, (listed, in_family graph k k ∙ both_true (nat_lt k (length graph)) (k == k || is_ancestor graph k k) inside (or_left (k == k) (is_ancestor graph k k) (eq-eqb k k refl))))
  way_down k (suc n) inside (m, (listed, way)) =
      (m, (listed, in_family graph m k ∙ both_true (nat_lt k (length graph)) (k == m || is_ancestor graph m k) inside (or_right (k == m) (is_ancestor graph m k) ((is_ancestor_exact graph m k).1 (n, way)))))

  step_down : (k : ℕ) → is_among (family graph e) k ≡ true → (k ≡ e) ⊎ StepsDown k
  step_down k there =
      let told = sym (in_family graph e k) ∙ there in
      let inside = first_true (nat_lt k (length graph)) (k == e || is_ancestor graph e k) told in
      ⊎_elim
      (λ (is : (k == e) ≡ true). inl (eqb-true k e is))
      (λ (above : is_ancestor graph e k ≡ true). let way = (is_ancestor_exact graph e k).0 above in inr (way_down k way.0 inside way.1))
      (either (k == e) (is_ancestor graph e k) (second_true (nat_lt k (length graph)) (k == e || is_ancestor graph e k) told))

  itself : e < length graph → is_among (family graph e) e ≡ true
  itself within = in_family graph e e ∙ both_true (nat_lt e (length graph)) (e == e || is_ancestor graph e e) (grind (arith, nat_tests)) (or_left (e == e) (is_ancestor graph e e) (eq-eqb e e refl))

-- ---- what a table keeps

row_found : {X : Type 0} (o : Option X) (P : X → Bool) → option_map_or P o false ≡ true → (x : X) × ((o ≡ Some x) × (P x ≡ true))
row_found None P e = cc
row_found (Some x) P e = (x, (refl, e))

row_there : {X : Type 0} (o : Option X) → is_some o ≡ true → (x : X) × (o ≡ Some x)
row_there None e = cc
row_there (Some x) e = (x, refl)

module _ (graph : List (List ℕ)) (sorts : List Sort) (class : Class) (table : List (Option (List ℕ))) (t : IsTable graph sorts class table)
    (e : ℕ) (within : e < length graph) (united numbers : List ℕ) (u : IsUnited table (supertypes graph e) united)
    (adds : (k : ℕ) → is_among numbers k ≡ ((is_of class (sort_at sorts e) && e == k) || is_among united k)) where
  abbrev all : ℕ → List ℕ
  all n = of_class graph sorts class n

  stands : (m : ℕ) (kept : List ℕ) → kept_in table m ≡ Some kept → StandFor sorts (all m) kept
  stands m kept is = subst (λ o. MatchOption o ⊤ (λ kept. StandFor sorts (all m) kept)) is (t.stand m)

  in_all : (n k : ℕ) → is_among (family graph n) k ≡ true → is_of class (sort_at sorts k) ≡ true → is_among (all n) k ≡ true
  in_all n k there of = is_among-filter (λ k. is_of class (sort_at sorts k)) (family graph n) k ∙ both_true (is_among (family graph n) k) (is_of class (sort_at sorts k)) there of

  of_all : (n k : ℕ) → is_among (all n) k ≡ true → (is_among (family graph n) k && is_of class (sort_at sorts k)) ≡ true
  of_all n k there = sym (is_among-filter (λ k. is_of class (sort_at sorts k)) (family graph n) k) ∙ there

  all_up : (m k : ℕ) → is_among (supertypes graph e) m ≡ true → is_among (all m) k ≡ true → is_among (all e) k ≡ true
  all_up m k listed there =
      let both = of_all m k there in
      in_all e k (step_up graph e m k listed (first_true (is_among (family graph m) k) (is_of class (sort_at sorts k)) both))
      (second_true (is_among (family graph m) k) (is_of class (sort_at sorts k)) both)

  kept_up : (m k : ℕ) (kept : List ℕ) → is_among (supertypes graph e) m ≡ true → kept_in table m ≡ Some kept → is_among kept k ≡ true → is_among numbers k ≡ true
  kept_up m k kept listed is there =
      adds k ∙ or_right (is_of class (sort_at sorts e) && e == k) (is_among united k)
      (u.all k ∙ any_at (λ m. option_map_or (λ kept. is_among kept k) (kept_in table m) false) (supertypes graph e) m listed (rw is there))

  none_else : (k : ℕ) → is_among numbers k ≡ true → is_among (all e) k ≡ true
  none_else k there = ⊎_elim
      (λ (own : (is_of class (sort_at sorts e) && e == k) ≡ true).
      rw (← eqb-true e k (second_true (is_of class (sort_at sorts e)) (e == k) own)) (in_all e e (itself graph e within) (first_true (is_of class (sort_at sorts e)) (e == k) own)))
      (λ (from : is_among united k ≡ true).
      let found = any_where (λ m. option_map_or (λ kept. is_among kept k) (kept_in table m) false) (supertypes graph e) (sym (u.all k) ∙ from) in
      let row = row_found (kept_in table found.0) (λ kept. is_among kept k) found.1.1 in
      all_up found.0 k found.1.0 ((stands found.0 row.0 row.1.0).within k row.1.1))
      (either (is_of class (sort_at sorts e) && e == k) (is_among united k) (sym (adds k) ∙ there))

  module _ (kept : List ℕ) (s : StandFor sorts numbers kept) where
    through : (m k : ℕ) (row : List ℕ) → is_among (supertypes graph e) m ≡ true → kept_in table m ≡ Some row → IsCovered sorts row k → IsCovered sorts kept k
    through m k row listed is (inl there) = s.whole k (kept_up m k row listed is there)
    through m k row listed is (inr two) =
        let t = two_of sorts row (sort_at sorts k) two in
        inr (covered_two sorts kept t.first t.second (sort_at sorts k) t.enough t.other t.first_sort t.second_sort
        (s.whole t.first (kept_up m t.first row listed is t.first_there)) (s.whole t.second (kept_up m t.second row listed is t.second_there)))

    covers : (k : ℕ) → is_among (all e) k ≡ true → IsCovered sorts kept k
    covers k there =
        let both = of_all e k there in
        let of : is_of class (sort_at sorts k) ≡ true = second_true (is_among (family graph e) k) (is_of class (sort_at sorts k)) both in
        ⊎_elim
        (λ (is : k ≡ e). s.whole k (adds k ∙ or_left (is_of class (sort_at sorts e) && e == k) (is_among united k)
        (both_true (is_of class (sort_at sorts e)) (e == k) (rw (← is) of) (eq-eqb e k (sym is)))))
        (λ (down : StepsDown graph e k).
        let row = row_there (kept_in table down.0) (u.there down.0 down.1.0) in
        through down.0 k row.0 down.1.0 row.1 ((stands down.0 row.0 row.1).whole k (in_all down.0 k down.1.1 of)))
        (step_down graph e k (first_true (is_among (family graph e) k) (is_of class (sort_at sorts k)) both))

    pub family_stands : StandFor sorts (all e) kept
    family_stands = record { ascend = s.ascend; within = λ k there. none_else k (s.within k there); whole = covers }
