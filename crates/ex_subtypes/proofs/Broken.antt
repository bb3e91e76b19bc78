-- Whether a set breaks an expression, by the places at which members stand.
use Rattle.std.proofs.Common.{◌≡◌, ℕ, zero, suc, ◌+◌, ◌<◌, Bool, true, false, ◌&&◌, ◌||◌, ◌==◌, nat_lt, List, [], ◌∷◌, length, get_or, Option, Some, None, ⊎_elim, refl, sym, ◌∙◌, ap, subst, arith}
use Rattle.std.proofs.lemmas.Bool.{and_parts, eq-eqb, eqb-true, lt-ltb, ltb-true, or_cases, or_left, or_right}
use Rattle.std.specs.Prelude.{slice_get}
use Rattle.std.specs.List.{list_all, list_any}
use Rattle.std.specs.Option.{option_map, option_map_or}
use Rattle.plain_data.specs.Numbers.{is_among}
use Rattle.graphs.specs.Graphs.{supertypes}
use Rattle.ex_named.specs.declared.declaration.NamedEntity.{NamedEntity}
use Rattle.ex_named.specs.declared.declaration.NamedSupertype.{NamedSupertype}
use Rattle.ex_subtypes.specs.declared.constraints.Constraint.{Constraint}
use Rattle.ex_subtypes.specs.Combinations.{is_distinct, names}
use Rattle.ex_subtypes.specs.Edges.{AreBelow, is_below, stands_at}
use Rattle.ex_subtypes.specs.Legal.{AreReadable, breaks, breaks_expression, constraints, constraints_of, graph, is_direct_subtype, is_neither, is_readable, listed, member}
use Rattle.ex_subtypes.specs.Nodes.{all_kept, kept, kept_at, placed, taken_at}
use Rattle.ex_subtypes.specs.Places.{is_place_of}
use Rattle.ex_subtypes.proofs.Entries.{has_at}
use Rattle.ex_subtypes.proofs.Joins.{walked_is}
use Rattle.ex_subtypes.proofs.Placed.{Falls, is_walked, same_named}

-- ---- some of several

some_of : (f : ℕ → Bool) (xs : List ℕ) → list_any f xs ≡ true → (n : ℕ) × ((is_among xs n ≡ true) × (f n ≡ true))
some_of f [] e = cc
some_of f (x ∷ xs) e = ⊎_elim
    (λ (here : f x ≡ true). (x, (or_left (x == x) (is_among xs x) (eq-eqb x x refl), here)))
    (λ (there : list_any f xs ≡ true). let found = some_of f xs there in (found.0, (or_right (x == found.0) (is_among xs found.0) found.1.0, found.1.1)))
    (or_cases (f x) (list_any f xs) e)

one_is : (f : ℕ → Bool) (xs : List ℕ) (n : ℕ) → is_among xs n ≡ true → f n ≡ true → list_any f xs ≡ true
one_is f [] n there is = cc
one_is f (x ∷ xs) n there is = ⊎_elim
    (λ (here : (x == n) ≡ true). or_left (f x) (list_any f xs) (ap f (eqb-true x n here) ∙ is))
    (λ (later : is_among xs n ≡ true). or_right (f x) (list_any f xs) (one_is f xs n later is))
    (or_cases (x == n) (is_among xs n) there)

-- where a number stands
place_in : (xs : List ℕ) (n : ℕ) → is_among xs n ≡ true → (k : ℕ) × ((k < length xs) × (get_or xs k 0 ≡ n))
place_in [] n e = cc
place_in (x ∷ xs) n e = ⊎_elim
    (λ (here : (x == n) ≡ true). (0, (omega arith, eqb-true x n here)))
    (λ (later : is_among xs n ≡ true). let found = place_in xs n later in (suc found.0, (omega (arith, found.1.0), found.1.1)))
    (or_cases (x == n) (is_among xs n) e)

all_at : (f : ℕ → Bool) (xs : List ℕ) → list_all f xs ≡ true → (k : ℕ) → k < length xs → f (get_or xs k 0) ≡ true
all_at f [] all k within = absurd (omega arith)
all_at f (x ∷ xs) all zero within = (and_parts (f x) (list_all f xs) all).0
all_at f (x ∷ xs) all (suc k) within = all_at f xs (and_parts (f x) (list_all f xs) all).1 k (omega arith)

both_hold : (a b : Bool) → a ≡ true → b ≡ true → (a && b) ≡ true
both_hold a b p q = rw (p, q) refl

alike : (a b : Bool) → (a ≡ true → b ≡ true) → (b ≡ true → a ≡ true) → a ≡ b
alike true b f g = sym (f refl)
alike false true f g = g refl
alike false false f g = refl

-- ---- the members below an entity that an expression names

module _ (above : List (List ℕ)) (set below places named : List ℕ) (number : ℕ)
    (are_direct : list_all (λ s. is_among (supertypes above s) number) named ≡ true)
    (are_below : (n : ℕ) → is_among below n ≡ is_below above set number n)
    (are_places : (k : ℕ) → is_among places k ≡ list_any (λ n. is_place_of named set n k) below) where
  -- a place at which a member stands
  stands : (k : ℕ) → is_among places k ≡ true → (k < length named) × (is_among set (get_or named k 0) ≡ true)
  stands k e =
      let found = some_of (λ n. is_place_of named set n k) below (sym (are_places k) ∙ e) in
      let n = found.0 in
      let parts = and_parts (nat_lt n (length set)) (stands_at named (member set n) k) found.1.1 in
      let inner = and_parts (nat_lt k (length named)) (member set n == member named k) parts.1 in
      let same : member set n ≡ member named k = eqb-true (member set n) (member named k) inner.1 in
      (ltb-true k (length named) inner.0, ap (is_among set) (sym same) ∙ has_at set n (ltb-true n (length set) parts.0))

  -- a member that is named stands at its place
  is_found : (k : ℕ) → k < length named → is_among set (get_or named k 0) ≡ true → is_among places k ≡ true
  is_found k within has =
      let found = place_in set (get_or named k 0) has in
      let n = found.0 in
      let same : member set n ≡ member named k = found.1.1 in
      let in_set : nat_lt n (length set) ≡ true = lt-ltb n (length set) found.1.0 in
      let direct : is_among (supertypes above (member set n)) number ≡ true = ap (λ s. is_among (supertypes above s) number) same ∙ all_at (λ s. is_among (supertypes above s) number) named are_direct k within in
      let there : is_among below n ≡ true = are_below n ∙ both_hold (nat_lt n (length set)) (is_among (supertypes above (member set n)) number) in_set direct in
      let at : stands_at named (member set n) k ≡ true = both_hold (nat_lt k (length named)) (member set n == member named k) (lt-ltb k (length named) within) (eq-eqb (member set n) (member named k) same) in
      are_places k ∙ one_is (λ m. is_place_of named set m k) below n there (both_hold (nat_lt n (length set)) (stands_at named (member set n) k) in_set at)

  falls : Falls set named 0 places
  falls = record {
    within = λ p e. let at = stands p e in (omega arith, omega (arith, at.0));
    same = λ k within.
        let none : 0 + k ≡ k = omega arith in
        rw none (alike (is_among places k) (is_among set (get_or named k 0)) (λ e. (stands k e).1) (is_found k within));
  }

-- the members below the one in a place
pub below_at : (above : List (List ℕ)) (set : List ℕ) (rows : List (List ℕ)) (row : List ℕ) (place number : ℕ) → AreBelow above set rows → place < length set → row ≡ supertypes rows place → number ≡ member set place
    → (n : ℕ) → is_among row n ≡ is_below above set number n
below_at above set rows row place number are_below within row_is number_is n =
    ap (λ l. is_among l n) row_is ∙ are_below place n ∙ rw (lt-ltb place (length set) within, number_is) refl

-- what is taken of the node of an expression tells whether the set breaks it
broken_is : (entities : List NamedEntity) (set below places : List ℕ) (number : ℕ) (x : NamedSupertype) → is_readable entities number x ≡ true
    → ((n : ℕ) → is_among below n ≡ is_below (graph entities) set number n) → ((k : ℕ) → is_among places k ≡ list_any (λ n. is_place_of (placed x).named set n k) below)
    → is_neither (taken_at ((placed x).node 0) places) ≡ breaks_expression set x
broken_is entities set below places number x readable are_below are_places =
    let both = and_parts (is_distinct (names x)) (list_all (is_direct_subtype entities number) (names x)) readable in
    let direct : list_all (is_direct_subtype entities number) (placed x).named ≡ true = ap (list_all (is_direct_subtype entities number)) (same_named x) ∙ both.1 in
    ap is_neither (is_walked x set places 0 (falls (graph entities) set below places (placed x).named number direct are_below are_places) ∙ walked_is set x both.0)

or_false : (b : Bool) → (b || false) ≡ b
or_false true = refl
or_false false = refl

-- ---- by what is kept

-- what is kept of an entity, and its expressions
kept_by : (entities : List NamedEntity) (e : ℕ) → kept_at (all_kept entities) e ≡ option_map_or (λ x. option_map kept x.constraint) (slice_get entities e) None
kept_by [] e = refl
kept_by (x ∷ entities) zero = refl
kept_by (x ∷ entities) (suc e) = kept_by entities e

some_kept : (o : Option NamedSupertype) (c : Constraint) → option_map kept o ≡ Some c → (x : NamedSupertype) × ((listed o ≡ x ∷ []) × (c ≡ kept x))
some_kept None c e = cc
some_kept (Some x) c e = (x, (refl, cc))

none_kept : (o : Option NamedSupertype) → option_map kept o ≡ None → listed o ≡ []
none_kept None e = refl
none_kept (Some x) e = cc

kept_some : (o : Option NamedEntity) (c : Constraint) → option_map_or (λ x. option_map kept x.constraint) o None ≡ Some c → (x : NamedSupertype) × ((option_map_or constraints_of o [] ≡ x ∷ []) × (c ≡ kept x))
kept_some None c e = cc
kept_some (Some entity) c e = some_kept entity.constraint c e

kept_none : (o : Option NamedEntity) → option_map_or (λ x. option_map kept x.constraint) o None ≡ None → option_map_or constraints_of o [] ≡ []
kept_none None e = refl
kept_none (Some entity) e = none_kept entity.constraint e

pub breaks_none : (entities : List NamedEntity) (set : List ℕ) (number : ℕ) → kept_at (all_kept entities) number ≡ None → breaks entities set number ≡ false
breaks_none entities set number none =
    let bare : constraints entities number ≡ [] = kept_none (slice_get entities number) (sym (kept_by entities number) ∙ none) in
    ap (list_any (breaks_expression set)) bare

pub breaks_some : (entities : List NamedEntity) (set below places : List ℕ) (number : ℕ) (c : Constraint) → AreReadable entities → kept_at (all_kept entities) number ≡ Some c
    → ((n : ℕ) → is_among below n ≡ is_below (graph entities) set number n) → ((k : ℕ) → is_among places k ≡ list_any (λ n. is_place_of c.places set n k) below)
    → is_neither (taken_at c.node places) ≡ breaks entities set number
breaks_some entities set below places number c readable is are_below are_places =
    let found = kept_some (slice_get entities number) c (sym (kept_by entities number) ∙ is) in
    let x = found.0 in
    let one : constraints entities number ≡ x ∷ [] = found.1.0 in
    let same : c ≡ kept x = found.1.1 in
    let good : is_readable entities number x ≡ true = (and_parts (is_readable entities number x) true (ap (list_all (is_readable entities number)) (sym one) ∙ readable number)).0 in
    let where_named : (k : ℕ) → is_among places k ≡ list_any (λ n. is_place_of (placed x).named set n k) below = subst (λ (d : Constraint). (k : ℕ) → is_among places k ≡ list_any (λ n. is_place_of d.places set n k) below) same are_places in
    ap (λ (d : Constraint). is_neither (taken_at d.node places)) same
    ∙ broken_is entities set below places number x good are_below where_named
    ∙ sym (or_false (breaks_expression set x))
    ∙ ap (list_any (breaks_expression set)) (sym one)
