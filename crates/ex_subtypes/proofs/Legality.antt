-- The set of a line is legal, if its last member isn't abstract and no expression is broken.
use Rattle.std.proofs.Common.{◌≡◌, ◌<◌, ◌+◌, ℕ, zero, suc, Bool, true, false, not, ◌&&◌, ◌||◌, ◌==◌, nat_lt, List, [], ◌∷◌, filter, length, Option, Some, None, option_map, ◌⊎◌, inl, inr, ⊎_elim, refl, sym, ◌∙◌, ap, subst, arith}
use Rattle.std.proofs.lemmas.Bool.{cases_Bool, eq-eqb, eqb-true}
use Rattle.std.proofs.lemmas.Bool.Decides.{nat_tests}
use Rattle.std.specs.List.{list_all, list_any}
use Rattle.std.specs.List.Sorted.{IsStrictlyIncreasing}
use Rattle.plain_data.specs.Numbers.{is_among}
use Rattle.ex_named.specs.declared.declaration.NamedEntity.{NamedEntity}
use Rattle.graphs.specs.Graphs.{each_once, supertypes, Reaches, IsAncestor, is_ancestor, line, line_within, numbers_from}
use Rattle.graphs.proofs.Bounded.{answer_is, any_at}
use Rattle.graphs.proofs.Families.{among_numbers, is_among-filter}
use Rattle.graphs.proofs.Sets.{either, or_left, or_right}
use Rattle.ex_subtypes.specs.Legal.{breaks, first_of, graph, is_abstract, is_bare, is_beside, is_closed, is_connected, member, refusal, steps}
use Rattle.ex_subtypes.specs.Nodes.{all_kept, kept_at}
use Rattle.ex_subtypes.proofs.Broken.{breaks_none}
use Rattle.ex_subtypes.proofs.Connected.{steps_at}
use Rattle.ex_subtypes.proofs.Lines as lines

-- ---- lists

all_pass : (p : ℕ → Bool) (xs : List ℕ) → ((x : ℕ) → is_among xs x ≡ true → p x ≡ true) → list_all p xs ≡ true
all_pass p [] all = refl
all_pass p (x ∷ xs) all = rw (all x (or_left (x == x) (is_among xs x) (eq-eqb x x refl)), all_pass p xs (λ y h. all y (or_right (x == y) (is_among xs y) h))) refl

none_pass : (p : ℕ → Bool) (xs : List ℕ) → ((x : ℕ) → is_among xs x ≡ true → p x ≡ false) → filter p xs ≡ []
none_pass p [] none = refl
none_pass p (x ∷ xs) none = rw (none x (or_left (x == x) (is_among xs x) (eq-eqb x x refl)), none_pass p xs (λ y h. none y (or_right (x == y) (is_among xs y) h))) refl

-- where a member stands
place_of : (xs : List ℕ) (x : ℕ) → is_among xs x ≡ true → (k : ℕ) × ((k < length xs) × (member xs k ≡ x))
place_of [] x there = cc
place_of (y ∷ ys) x there = ⊎_elim
    (λ (here : (y == x) ≡ true). (zero, (omega arith, eqb-true y x here)))
    (λ (later : is_among ys x ≡ true). let found = place_of ys x later in let within = found.1.0 in (suc found.0, (omega arith, found.1.1)))
    (either (y == x) (is_among ys x) there)

stands : (xs : List ℕ) (k : ℕ) → k < length xs → is_among xs (member xs k) ≡ true
stands [] k within = absurd (omega arith)
stands (x ∷ xs) zero within = or_left (x == x) (is_among xs x) (eq-eqb x x refl)
stands (x ∷ xs) (suc k) within = or_right (x == member xs k) (is_among xs (member xs k)) (stands xs k (omega arith))

rises : (xs : List ℕ) → IsStrictlyIncreasing xs → (k : ℕ) → suc k < length xs → member xs zero < member xs (suc k)
rises xs up zero within = up zero (omega arith)
rises xs up (suc k) within =
    let one : suc k + 1 ≡ suc (suc k) = omega arith in
    let next : member xs (suc k) < member xs (suc (suc k)) = subst (λ j. member xs (suc k) < member xs j) one (up (suc k) (omega arith)) in
    let before : member xs zero < member xs (suc k) = rises xs up k (omega arith) in
    omega arith

module _ (above : List (List ℕ)) (set : List ℕ) where
  -- from place to place as from member to member
  step : (p q : ℕ) → p < length set → q < length set → is_beside above (member set p) (member set q) ≡ true → is_among (supertypes (steps above set) p) q ≡ true
  step p q first second beside =
      let one : nat_lt p (length set) ≡ true = grind (arith, nat_tests) in
      let other : nat_lt q (length set) ≡ true = grind (arith, nat_tests) in
      steps_at above set p q ∙ rw (one, other, beside) refl

  reaches : (n a b p q : ℕ) → lines.Linked above set (suc n) a b → p < length set → member set p ≡ a → q < length set → member set q ≡ b → Reaches (steps above set) n p q
  reaches zero a b p q way first is_a second is_b =
      let beside : is_beside above (member set p) (member set q) ≡ true = rw (is_a, is_b, ← way.1.1.1) way.1.1.0 in
      step p q first second beside
  reaches (suc n) a b p q way first is_a second is_b =
      let found = place_of set way.0 way.1.0 in
      let beside : is_beside above (member set p) (member set found.0) ≡ true = rw (is_a, found.1.1) way.1.1.0 in
      (found.0, (step p found.0 first found.1.0 beside, reaches n way.0 b found.0 q way.1.1.1 found.1.0 found.1.1 second is_b))

  reached : (k q : ℕ) → IsStrictlyIncreasing set → suc q < length set → lines.Linked above set k (member set zero) (member set (suc q)) → is_ancestor (steps above set) zero (suc q) ≡ true
  reached zero q up within way = let more = rises set up q within in absurd (omega arith)
  reached (suc n) q up within way =
      let found : IsAncestor (steps above set) zero (suc q) = (n, reaches n (member set zero) (member set (suc q)) zero (suc q) way (omega arith) refl within refl) in
      sym (answer_is (steps above set) zero (suc q) true ((λ yes. found), (λ yes. refl)))

module _ (entities : List NamedEntity) (n e : ℕ) (l : List ℕ) (is : line_within n (graph entities) e ≡ Some l) (set : List ℕ) (up : IsStrictlyIncreasing set) (same : (m : ℕ) → is_among set m ≡ is_among l m) where
  closed : is_closed (graph entities) set ≡ true
  closed = all_pass (λ m. list_all (is_among set) (supertypes (graph entities) m)) set (λ m there. all_pass (is_among set) (supertypes (graph entities) m) (λ s next. same s ∙ lines.closed (graph entities) n e l is m s (sym (same m) ∙ there) next))

  linked : (k a b : ℕ) → lines.Linked (graph entities) l k a b → lines.Linked (graph entities) set k a b
  linked zero a b way = way
  linked (suc k) a b way = (way.0, (same way.0 ∙ way.1.0, (way.1.1.0, linked k way.0 b way.1.1.1)))

  at_place : (q : ℕ) → q < length set → (q == zero || is_ancestor (steps (graph entities) set) zero q) ≡ true
  at_place zero within = refl
  at_place (suc q) within =
      let first : is_among l (member set zero) ≡ true = sym (same (member set zero)) ∙ stands set zero (omega arith) in
      let second : is_among l (member set (suc q)) ≡ true = sym (same (member set (suc q))) ∙ stands set (suc q) within in
      let way = lines.connected (graph entities) n e l is (member set zero) (member set (suc q)) first second in
      or_right (suc q == zero) (is_ancestor (steps (graph entities) set) zero (suc q)) (reached (graph entities) set way.0 q up within (linked way.0 (member set zero) (member set (suc q)) way.1))

  some_there : (xs : List ℕ) → is_among xs e ≡ true → nat_lt zero (length xs) ≡ true
  some_there [] there = cc
  some_there (x ∷ xs) there = grind (arith, nat_tests)

  connected : is_connected (graph entities) set ≡ true
  connected =
      let has : is_among set e ≡ true = same e ∙ lines.has_itself (graph entities) n e l is in
      let all : list_all (λ q. q == zero || is_ancestor (steps (graph entities) set) zero q) (numbers_from zero (length set)) ≡ true =
      all_pass (λ q. q == zero || is_ancestor (steps (graph entities) set) zero q) (numbers_from zero (length set))
      (λ q there. let within : nat_lt q (length set) ≡ true = sym (among_numbers (length set) q) ∙ there in at_place q (grind (arith, nat_tests))) in
      rw (some_there set has, all) refl

  not_bare : is_abstract entities e ≡ false → (m : ℕ) → is_among set m ≡ true → is_bare entities set m ≡ false
  not_bare plain m there = ⊎_elim
      (λ (h : e ≡ m). let not_it : is_abstract entities m ≡ false = ap (is_abstract entities) (sym h) ∙ plain in rw not_it refl)
      (λ (h : (s : ℕ) × ((is_among l s ≡ true) × (is_among (supertypes (graph entities) s) m ≡ true))).
      let some : list_any (λ s. is_among (supertypes (graph entities) s) m) set ≡ true = any_at (λ s. is_among (supertypes (graph entities) s) m) set h.0 (same h.0 ∙ h.1.0) h.1.1 in
      rw some (and_false (is_abstract entities m)))
      (lines.below (graph entities) n e l is m (sym (same m) ∙ there))
    where
      and_false : (b : Bool) → (b && false) ≡ false
      and_false true = refl
      and_false false = refl

  pub legal : is_abstract entities e ≡ false → ((m : ℕ) → is_among set m ≡ true → breaks entities set m ≡ false) → refusal entities set ≡ None
  unfolding refusal
  legal plain whole =
      let no_bare = none_pass (is_bare entities set) set (not_bare plain) in
      let no_broken = none_pass (breaks entities set) set whole in
      rw (closed, connected, no_broken, no_bare) refl

-- ---- by the line as it is found

once_has : (xs : List ℕ) (m : ℕ) → is_among (each_once xs) m ≡ is_among xs m
once_has [] m = refl
once_has (x ∷ xs) m =
    ap (λ b. (x == m) || b) (is_among-filter (λ y. not (y == x)) (each_once xs) m ∙ ap (λ b. b && not (m == x)) (once_has xs m))
    ∙ or_else (x == m) (is_among xs m) (m == x) (λ h. let is : x ≡ m = eqb-true x m h in eq-eqb m x (sym is)) (λ h. let is : m ≡ x = eqb-true m x h in eq-eqb x m (sym is))
  where
    or_else : (a b c : Bool) → (a ≡ true → c ≡ true) → (c ≡ true → a ≡ true) → (a || (b && not c)) ≡ (a || b)
    or_else true b c one other = refl
    or_else false true true one other = let no : false ≡ true = other refl in cc
    or_else false true false one other = refl
    or_else false false c one other = refl

found_in : (o : Option (List ℕ)) (l : List ℕ) → option_map each_once o ≡ Some l → (m : List ℕ) × ((o ≡ Some m) × (each_once m ≡ l))
found_in None l is = cc
found_in (Some m) l is = (m, (refl, cc))

-- The line of an entity that isn't abstract, where no member has an expression.
pub line_legal : (entities : List NamedEntity) (above : List (List ℕ)) (e : ℕ) (l : List ℕ) → above ≡ graph entities → line above e ≡ Some l → is_abstract entities e ≡ false
    → ((m : ℕ) → is_among l m ≡ true → kept_at (all_kept entities) m ≡ None) → (set : List ℕ) → IsStrictlyIncreasing set → ((m : ℕ) → is_among set m ≡ is_among l m) → refusal entities set ≡ None
line_legal entities above e l listed is plain free set up same =
    let n = suc (length above) in
    let found = found_in (line_within n above e) l is in
    let there : line_within n (graph entities) e ≡ Some found.0 = ap (λ g. line_within n g e) (sym listed) ∙ found.1.0 in
    legal entities n e found.0 there set up (λ m. same m ∙ ap (λ k. is_among k m) (sym found.1.1) ∙ once_has found.0 m) plain
    (λ m h. breaks_none entities set m (free m (sym (same m) ∙ h)))
