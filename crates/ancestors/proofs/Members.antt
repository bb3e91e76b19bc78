-- Which numbers are in a member's family.
use Rattle.std.proofs.Common.{◌≡◌, ℕ, zero, suc, ◌<◌, ◌≤◌, Bool, true, false, ◌||◌, ◌&&◌, ◌==◌, nat_lt, List, [], ◌∷◌, length, filter, BTreeSet, ⊎_elim, refl, sym, ◌∙◌, ap, arith}
use Rattle.std.proofs.lemmas.Bool.{cases_Bool, eqb-true}
use Rattle.std.proofs.lemmas.Bool.Decides.{nat_tests}
use Rattle.std.proofs.lemmas.Cmp.{nat_cmp_total}
use Rattle.std.proofs.lemmas.List.Kept.{IsStrictlySortedBy-filter}
use Rattle.std.proofs.lemmas.Map.Lookups.{btree_set_from_contains, exact_unsigned}
use Rattle.std.specs.Prelude.{Result, Ok, Err, IfOk}
use Rattle.std.specs.BTreeSet.{insert_key}
use Rattle.std.specs.List.{list_any}
use Rattle.std.specs.List.Sorted.{IsStrictlySortedBy}
use Rattle.std.specs.Ordering.{nat_cmp}
use Rattle.plain_data.specs.Numbers.{is_among}
use Rattle.graphs.specs.Graphs.{supertypes, reaches, IsAncestor, is_ancestor, family}
use Rattle.graphs.proofs.Bounded.{is_member, is_ancestor_exact, answer_is}
use Rattle.graphs.proofs.Families.{is_among-filter, family_sorted, in_family}
use Rattle.graphs.proofs.Marks.{none_beyond}
use Rattle.graphs.proofs.Search.{Search, search_exact}
use Rattle.graphs.proofs.Sets.{contained, either, is_among-insert}
use Rattle.ancestors.specs.Kept.{AreAbove, is_alone}
use Rattle.ancestors.specs.Labels.{is_up}

pub is_inside : (m n : ℕ) → m < n → nat_lt m n ≡ true
is_inside m n h = grind (arith, nat_tests)

not_there : (b : Bool) → (b ≡ true → ⊥) → b ≡ false
not_there b never = ⊎_elim (λ (is : b ≡ true). absurd (never is)) (λ (is : b ≡ false). is) (cases_Bool b)

module _ (graph : List (List ℕ)) (e k : ℕ) where
  -- a number of the graph, by whether it is the member or above it
  pub told_in : k < length graph → (told : Bool) → told ≡ is_up graph e k → told ≡ is_among (family graph e) k
  told_in within told is = let among = in_family graph e k in grind (arith, nat_tests, among)

  pub told_same : k < length graph → e ≡ k → true ≡ is_among (family graph e) k
  told_same within same = let among = in_family graph e k in grind (arith, nat_tests, among)

  told_other : k < length graph → (e ≡ k → ⊥) → (told : Bool) → told ≡ is_ancestor graph e k → told ≡ is_among (family graph e) k
  told_other within other told is = let among = in_family graph e k in grind (arith, nat_tests, among)

  pub told_other_ok : {E : Type 0} → k < length graph → (e ≡ k → ⊥) → (r : Result Bool E) → IfOk r (λ told. told ≡ is_ancestor graph e k) → IfOk r (λ told. told ≡ is_among (family graph e) k)
  told_other_ok within other (Ok told) is = told_other within other told is
  told_other_ok within other (Err error) is = tt

  pub none_past : length graph ≤ k → false ≡ is_among (family graph e) k
  none_past past = let among = in_family graph e k in grind (arith, nat_tests, among)

  no_ancestor : length graph ≤ e → is_ancestor graph e k ≡ false
  no_ancestor past = not_there (is_ancestor graph e k) (λ above. none_beyond graph e k past ((is_ancestor_exact graph e k).0 above))

  -- a number beyond the graph has no family
  pub none_of_past : length graph ≤ e → false ≡ is_among (family graph e) k
  none_of_past past =
      let among = in_family graph e k in
      let none = no_ancestor past in
      grind (arith, nat_tests, among, none)

-- ---- nobody above

unreached : (n : ℕ) (graph : List (List ℕ)) (e q : ℕ) → supertypes graph e ≡ [] → reaches n graph e q ≡ false
unreached zero graph e q none = refl
unreached (suc n) graph e q none = ap (list_any (λ s. s == q || reaches n graph s q)) none

none_of : (xs : List ℕ) → length xs ≡ 0 → xs ≡ []
none_of [] h = refl
none_of (x ∷ xs) h = absurd (omega arith)

one_sorted : (e : ℕ) → IsStrictlySortedBy nat_cmp (e ∷ [])
unfolding IsStrictlySortedBy
one_sorted e = (tt, tt)

-- ---- all of it

pub same_keys : (xs ys : List ℕ) → IsStrictlySortedBy nat_cmp xs → IsStrictlySortedBy nat_cmp ys → ((q : ℕ) → is_among xs q ≡ is_among ys q) → xs ≡ ys
same_keys xs ys rise rise_too same =
    let first : BTreeSet ℕ = record { keys = xs } in
    let second : BTreeSet ℕ = record { keys = ys } in
    btree_set_from_contains nat_cmp_total first second rise rise_too (λ q. contained xs q ∙ same q ∙ sym (contained ys q)) exact_unsigned

fewer : (p : ℕ → Bool) (xs : List ℕ) → length (filter p xs) ≤ length xs
fewer p [] = omega arith
fewer p (x ∷ xs) =
    let rest = fewer p xs in
    ⊎_elim
    (λ (passes : p x ≡ true). rw passes (omega arith))
    (λ (fails : p x ≡ false). rw fails (omega arith))
    (cases_Bool (p x))

shorter : (xs ys : List ℕ) → IsStrictlySortedBy nat_cmp xs → IsStrictlySortedBy nat_cmp ys → ((q : ℕ) → is_among xs q ≡ true → is_among ys q ≡ true) → length xs ≤ length ys
shorter xs ys rise rise_too there =
    let kept = filter (λ q. is_among xs q) ys in
    let same : xs ≡ kept = same_keys xs kept rise (IsStrictlySortedBy-filter nat_cmp (λ q. is_among xs q) ys rise_too) (λ q. in_both (is_among xs q) (is_among ys q) (there q) ∙ sym (is_among-filter (λ r. is_among xs r) ys q)) in
    let few = fewer (λ q. is_among xs q) ys in
    let many = ap length same in
    omega arith
  where
    in_both : (a b : Bool) → (a ≡ true → b ≡ true) → a ≡ (b && a)
    in_both true b h = rw (h refl) refl
    in_both false true h = refl
    in_both false false h = refl

module _ (graph : List (List ℕ)) (e : ℕ) where
  abbrev pub inside : ℕ → Bool
  inside a = nat_lt a (length graph)

  counts_back : (m a : ℕ) → is_among (supertypes graph m) a ≡ true → inside a ≡ true → inside m ≡ true
  counts_back m a there within = is_inside m (length graph) (is_member graph m a there)

  pub more_inside : (found more : List ℕ) (next : ℕ) → ((n : ℕ) → is_among more n ≡ ((next == n) || is_among found n)) → next < length graph
      → ((a : ℕ) → is_among found a ≡ true → inside a ≡ true) → (a : ℕ) → is_among more a ≡ true → inside a ≡ true
  more_inside found more next adds within all a there = ⊎_elim
      (λ (is : (next == a) ≡ true). rw (← eqb-true next a is) (is_inside next (length graph) within))
      (λ (was : is_among found a ≡ true). all a was)
      (either (next == a) (is_among found a) (sym (adds a) ∙ there))

  -- what was found of a family is no longer than it
  pub family_longer : (found : List ℕ) (limit : ℕ) → IsStrictlySortedBy nat_cmp found → ((a : ℕ) → is_among found a ≡ true → IsAncestor graph e a)
      → ((a : ℕ) → is_among found a ≡ true → inside a ≡ true) → limit < length found → limit < length (family graph e)
  family_longer found limit rise above within many =
      let long = shorter found (family graph e) rise (family_sorted graph e) (λ a there.
      let is_above : is_ancestor graph e a ≡ true = (is_ancestor_exact graph e a).1 (above a there) in
      let in_graph = within a there in
      in_family graph e a ∙ rw (in_graph, is_above) (or_true (a == e))) in
      omega arith
    where
      or_true : (b : Bool) → (b || true) ≡ true
      or_true true = refl
      or_true false = refl

  pub above_done : (found waiting : List ℕ) → waiting ≡ [] → Search graph e inside found waiting → ((a : ℕ) → is_among found a ≡ true → inside a ≡ true) → AreAbove graph e found
  above_done found waiting none search within a = ⊎_elim
      (λ (in_graph : nat_lt a (length graph) ≡ true). rw in_graph (answer_is graph e a (is_among found a) (search_exact graph inside counts_back e found waiting found none refl search a in_graph)))
      (λ (past : nat_lt a (length graph) ≡ false). rw past (not_there (is_among found a) (λ there. let in_graph = within a there in cc)))
      (cases_Bool (nat_lt a (length graph)))

  -- a member and what is above it
  pub family_kept : (above kept : List ℕ) → AreAbove graph e above → e < length graph → kept ≡ insert_key nat_cmp above e → IsStrictlySortedBy nat_cmp kept → kept ≡ family graph e
  family_kept above kept are within is rise = same_keys kept (family graph e) rise (family_sorted graph e) (λ q.
      let inserted = ap (λ l. is_among l q) is ∙ is_among-insert above e q in
      let among = in_family graph e q in
      let over = are q in
      grind (arith, nat_tests, inserted, among, over))

pub family_alone : (graph : List (List ℕ)) (e : ℕ) → is_alone graph e ≡ true → family graph e ≡ e ∷ []
family_alone graph e alone =
    let both : (e < length graph) × (length (supertypes graph e) ≡ 0) = grind (arith, nat_tests, alone) in
    let none = none_of (supertypes graph e) both.1 in
    same_keys (family graph e) (e ∷ []) (family_sorted graph e) (one_sorted e) (λ q.
    let among = in_family graph e q in
    let above : is_ancestor graph e q ≡ false = unreached (length graph) graph e q none in
    grind (arith, nat_tests, among, above, both))

none_sorted : IsStrictlySortedBy nat_cmp []
unfolding IsStrictlySortedBy
none_sorted = tt

pub family_past : (graph : List (List ℕ)) (e : ℕ) → length graph ≤ e → family graph e ≡ []
family_past graph e past = same_keys (family graph e) [] (family_sorted graph e) none_sorted (λ q. sym (none_of_past graph e q past))
