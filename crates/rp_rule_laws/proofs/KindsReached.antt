-- What members of a graph lead to, step by step.
use Rattle.std.proofs.Common.{◌≡◌, ℕ, zero, suc, ◌<◌, Bool, true, false, ◌||◌, ◌==◌, nat_lt, List, [], ◌∷◌, length, Option, Some, None, ⊎_elim, refl, sym, ◌∙◌, ap, subst, arith}
use Rattle.std.proofs.lemmas.Bool.{eqb-true}
use Rattle.std.proofs.lemmas.Bool.Decides.{nat_tests}
use Rattle.std.specs.List.{list_any}
use Rattle.plain_data.specs.Numbers.{is_among}
use Rattle.graphs.specs.Graphs.{IsAcyclic, IsAncestor, Reaches, family, is_ancestor, joined, joined_at, line_within, supertypes}
use Rattle.graphs.proofs.Bounded.{any_at, any_where, is_ancestor_exact}
use Rattle.graphs.proofs.Certain.{both}
use Rattle.graphs.proofs.Families.{in_family}
use Rattle.graphs.proofs.Lines.{line_is, line_of}
use Rattle.graphs.proofs.Sets.{either, or_left, or_right}
use Rattle.rp_rule_laws.proofs.KindsEnds.{first_there}

pub one_way : (a b : Bool) → (a ≡ true → b ≡ true) → (b ≡ true → a ≡ true) → a ≡ b
one_way true b to from = sym (to refl)
one_way false true to from = from refl
one_way false false to from = refl

second_there : (a b : Option (List ℕ)) (l : List ℕ) → joined a b ≡ Some l → (m : List ℕ) × (b ≡ Some m)
second_there None b l e = cc
second_there (Some m) None l e = cc
second_there (Some m) (Some n) l e = (n, refl)

at_member : (f : ℕ → Option (List ℕ)) (m : ℕ) (ss l : List ℕ) → is_among ss m ≡ true → joined_at f ss ≡ Some l → (k : List ℕ) × (f m ≡ Some k)
at_member f m [] l there e = cc
at_member f m (s ∷ ss) l there e = ⊎_elim
    (λ (is : (s == m) ≡ true). subst (λ n. (k : List ℕ) × (f n ≡ Some k)) (eqb-true s m is) (first_there (f s) (joined_at f ss) l e))
    (λ (later : is_among ss m ≡ true). let rest = second_there (f s) (joined_at f ss) l e in at_member f m ss rest.0 later rest.1)
    (either (s == m) (is_among ss m) there)

module _ (graph : List (List ℕ)) where
  family_next : (e m a : ℕ) → is_among (supertypes graph e) m ≡ true → is_among (family graph m) a ≡ true → is_among (family graph e) a ≡ true
  family_next e m a step there =
      let parts = both (nat_lt a (length graph)) (a == m || is_ancestor graph m a) (sym (in_family graph m a) ∙ there) in
      let above : IsAncestor graph e a = ⊎_elim
      (λ (is : (a == m) ≡ true). (0, (rw (eqb-true a m is) step)))
      (λ (further : is_ancestor graph m a ≡ true). let rest = (is_ancestor_exact graph m a).0 further in (suc rest.0, (m, (step, rest.1))))
      (either (a == m) (is_ancestor graph m a) parts.1) in
      in_family graph e a ∙ rw (parts.0, (is_ancestor_exact graph e a).1 above) (or_right (a == e) true refl)

  family_itself : (e : ℕ) → e < length graph → is_among (family graph e) e ≡ true
  family_itself e within = in_family graph e e ∙ grind (arith, nat_tests)

  module _ (p : ℕ → Bool) (inside : (k : ℕ) → p k ≡ true → k < length graph) where
    -- whether one that passes is a member itself or above it
    abbrev pub is_above : ℕ → Bool
    is_above e = list_any p (family graph e)

    below : (a : ℕ) → nat_lt a (length graph) ≡ true → a < length graph
    below a less = grind (arith, nat_tests)

    upwards : (n e a : ℕ) → Reaches graph n e a → a < length graph → p a ≡ true → list_any is_above (supertypes graph e) ≡ true
    upwards zero e a step within passes = any_at is_above (supertypes graph e) a step (any_at p (family graph a) a (family_itself a within) passes)
    upwards (suc n) e a steps within passes =
        let next = upwards n steps.0 a steps.1.1 within passes in
        let found = any_where is_above (supertypes graph steps.0) next in
        let higher = any_where p (family graph found.0) found.1.1 in
        any_at is_above (supertypes graph e) steps.0 steps.1.0 (any_at p (family graph steps.0) higher.0 (family_next steps.0 found.0 higher.0 found.1.0 higher.1.0) higher.1.1)

    -- one step up
    pub unfolded : (e : ℕ) → is_above e ≡ (p e || list_any is_above (supertypes graph e))
    unfolded e = one_way (is_above e) (p e || list_any is_above (supertypes graph e))
        (λ some.
        let found = any_where p (family graph e) some in
        let parts = both (nat_lt found.0 (length graph)) (found.0 == e || is_ancestor graph e found.0) (sym (in_family graph e found.0) ∙ found.1.0) in
        ⊎_elim
        (λ (is : (found.0 == e) ≡ true). or_left (p e) (list_any is_above (supertypes graph e)) (ap p (sym (eqb-true found.0 e is)) ∙ found.1.1))
        (λ (higher : is_ancestor graph e found.0 ≡ true).
        let way = (is_ancestor_exact graph e found.0).0 higher in
        or_right (p e) (list_any is_above (supertypes graph e)) (upwards way.0 e found.0 way.1 (below found.0 parts.0) found.1.1))
        (either (found.0 == e) (is_ancestor graph e found.0) parts.1))
        (λ some. ⊎_elim
        (λ (here : p e ≡ true). any_at p (family graph e) e (family_itself e (inside e here)) here)
        (λ (later : list_any is_above (supertypes graph e) ≡ true).
        let next = any_where is_above (supertypes graph e) later in
        let found = any_where p (family graph next.0) next.1.1 in
        any_at p (family graph e) found.0 (family_next e next.0 found.0 next.1.0 found.1.0) found.1.1)
        (either (p e) (list_any is_above (supertypes graph e)) some))

  -- what holds of a member once it holds of those that it leads to holds of each
  module _ (acyclic : IsAcyclic graph) (P : ℕ → Type 0) (next : (m : ℕ) → ((n : ℕ) → is_among (supertypes graph m) n ≡ true → P n) → P m) where
    within : (n k : ℕ) (l : List ℕ) → line_within n graph k ≡ Some l → P k
    within zero k l e = cc
    within (suc n) k l e = next k (λ m there.
        let all = first_there (joined_at (line_within n graph) (supertypes graph k)) (Some (k ∷ [])) l e in
        let above = at_member (line_within n graph) m (supertypes graph k) all.0 there all.1 in
        within n m above.0 above.1)

    pub each : (m : ℕ) → P m
    each m = within (suc (length graph)) m (line_of graph m) (line_is graph acyclic m)
