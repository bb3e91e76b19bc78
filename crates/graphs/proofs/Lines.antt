-- The lines of a graph without cycles.
use Rattle.std.proofs.Common.{◌≡◌, ℕ, zero, suc, ◌+◌, ◌<◌, true, false, ◌==◌, nat_lt, List, [], ◌∷◌, ◌++◌, length, Option, Some, None, ◌⊎◌, inl, inr, ⊎_elim, refl, sym, ◌∙◌, ap, arith}
use Rattle.std.proofs.lemmas.Bool.{cases_Bool, eq-eqb, eqb-true}
use Rattle.std.proofs.lemmas.List.{get_or_past}
use Rattle.std.specs.List.{flat_map}
use Rattle.std.specs.Option.{unwrap_or}
use Rattle.plain_data.specs.Numbers.{is_among}
use Rattle.graphs.specs.Graphs.{supertypes, IsAncestor, IsAcyclic, joined, joined_at, line_within}
use Rattle.graphs.proofs.Left.{left, left_all, left_less, within_or, beyond_or}
use Rattle.graphs.proofs.Search.{ancestor_above, ancestor_direct}
use Rattle.graphs.proofs.Sets.{either, or_right}

-- ---- there is one

abbrev one : List ℕ → ℕ
one s = 1

joined_none : (o : Option (List ℕ)) (l : List ℕ) → joined o (Some l) ≡ None → o ≡ None
joined_none (Some m) l e = cc
joined_none None l e = refl

none_at_from : (f : ℕ → Option (List ℕ)) (s : ℕ) (ss : List ℕ) (o : Option (List ℕ)) → f s ≡ o → joined o (joined_at f ss) ≡ None → (f s ≡ None) ⊎ (joined_at f ss ≡ None)
none_at_from f s ss None e h = inl e
none_at_from f s ss (Some l) e h = inr (second (joined_at f ss) h)
  where
    second : (o : Option (List ℕ)) → joined (Some l) o ≡ None → o ≡ None
    second (Some m) g = cc
    second None g = refl

-- where the lists are not all there, one of them isn't
none_at : (f : ℕ → Option (List ℕ)) (ss : List ℕ) → joined_at f ss ≡ None → (s : ℕ) × ((is_among ss s ≡ true) × (f s ≡ None))
none_at f [] e = cc
none_at f (s ∷ ss) e = ⊎_elim
    (λ (here : f s ≡ None). (s, (rw (eq-eqb s s refl) refl, here)))
    (λ (later : joined_at f ss ≡ None). let found = none_at f ss later in (found.0, (or_right (s == found.0) (is_among ss found.0) found.1.0, found.1.1)))
    (none_at_from f s ss (f s) refl e)

module _ (graph : List (List ℕ)) (acyclic : IsAcyclic graph) where
  -- a way that is longer than there are members would meet one again
  deep : (n e : ℕ) (way : List ℕ) → line_within n graph e ≡ None → ((p : ℕ) → is_among way p ≡ true → IsAncestor graph p e) → left one graph way < n → ⊥
  deep zero e way none above less = omega arith
  deep (suc n) e way none above less =
      let next = none_at (line_within n graph) (supertypes graph e) (joined_none (joined_at (line_within n graph) (supertypes graph e)) (e ∷ []) none) in
      let s = next.0 in
      let fresh : is_among way e ≡ false = ⊎_elim
      (λ (met : is_among way e ≡ true). absurd (acyclic e (above e met)))
      (λ (other : is_among way e ≡ false). other)
      (cases_Bool (is_among way e)) in
      let within : e < length graph = ⊎_elim
      (λ (h : nat_lt e (length graph) ≡ true). within_or e (length graph) h)
      (λ (h : nat_lt e (length graph) ≡ false). let there = ap (λ l. is_among l s) (get_or_past graph e [] (beyond_or e (length graph) h)) in let is = next.1.0 in absurd cc)
      (cases_Bool (nat_lt e (length graph))) in
      let fewer : left one graph (e ∷ way) + 1 ≡ left one graph way = left_less one way (e ∷ way) e (λ m. refl) graph within fresh in
      deep n s (e ∷ way) next.1.1
      (λ p h. ⊎_elim
      (λ (is : (e == p) ≡ true). rw (← eqb-true e p is) (ancestor_direct graph e s next.1.0))
      (λ (was : is_among way p ≡ true). ancestor_above graph p e s (above p was) next.1.0)
      (either (e == p) (is_among way p) h))
      (omega arith)

-- the line of a member, in a graph without cycles
pub line_of : List (List ℕ) → ℕ → List ℕ
line_of graph e = unwrap_or (line_within (suc (length graph)) graph e) []

there_is : (o : Option (List ℕ)) → (o ≡ None → ⊥) → o ≡ Some (unwrap_or o [])
there_is (Some l) h = refl
there_is None h = absurd (h refl)

pub line_is : (graph : List (List ℕ)) → IsAcyclic graph → (e : ℕ) → line_within (suc (length graph)) graph e ≡ Some (line_of graph e)
unfolding line_of
line_is graph acyclic e = there_is (line_within (suc (length graph)) graph e)
    (λ none. deep graph acyclic (suc (length graph)) e [] none (λ p h. absurd cc) (let all = left_all graph in omega arith))

-- ---- what it is made of

-- a list that is joined to another is there
pub joined_some : (o p : Option (List ℕ)) (l : List ℕ) → joined o p ≡ Some l → (m : List ℕ) × ((k : List ℕ) × ((o ≡ Some m) × ((p ≡ Some k) × (l ≡ m ++ k))))
joined_some (Some m) (Some k) l e = (m, (k, (refl, (refl, cc))))
joined_some (Some m) None l e = cc
joined_some None p l e = cc

joined_at_more : (f g : ℕ → Option (List ℕ)) → ((s : ℕ) (l : List ℕ) → f s ≡ Some l → g s ≡ Some l) → (ss m : List ℕ) → joined_at f ss ≡ Some m → joined_at g ss ≡ Some m
joined_at_more f g more [] m e = e
joined_at_more f g more (s ∷ ss) m e =
    let parts = joined_some (f s) (joined_at f ss) m e in
    rw (more s parts.0 parts.1.1.0, joined_at_more f g more ss parts.1.0 parts.1.1.1.0) (ap (λ l. Some l) (sym parts.1.1.1.1))

-- a line that is there stays as it is where more members may be gone through
deeper : (graph : List (List ℕ)) (n e : ℕ) (l : List ℕ) → line_within n graph e ≡ Some l → line_within (suc n) graph e ≡ Some l
deeper graph zero e l h = cc
deeper graph (suc n) e l h =
    let parts = joined_some (joined_at (line_within n graph) (supertypes graph e)) (Some (e ∷ [])) l h in
    let above : joined_at (line_within (suc n) graph) (supertypes graph e) ≡ Some parts.0 = joined_at_more (line_within n graph) (line_within (suc n) graph) (λ s k. deeper graph n s k) (supertypes graph e) parts.0 parts.1.1.0 in
    ap (λ o. joined o (Some (e ∷ []))) above ∙ ap (λ o. joined o (Some (e ∷ []))) (sym parts.1.1.0) ∙ h

joined_at_all : (f : ℕ → Option (List ℕ)) (g : ℕ → List ℕ) → ((s : ℕ) → f s ≡ Some (g s)) → (ss : List ℕ) → joined_at f ss ≡ Some (flat_map g ss)
joined_at_all f g all [] = refl
joined_at_all f g all (s ∷ ss) = rw (all s, joined_at_all f g all ss) refl

pub line_parts : (graph : List (List ℕ)) → IsAcyclic graph → (e : ℕ) → line_of graph e ≡ flat_map (line_of graph) (supertypes graph e) ++ e ∷ []
line_parts graph acyclic e =
    let n = suc (length graph) in
    let above = joined_at_all (line_within n graph) (line_of graph) (line_is graph acyclic) (supertypes graph e) in
    let whole : Some (line_of graph e) ≡ Some (flat_map (line_of graph) (supertypes graph e) ++ e ∷ []) =
    sym (deeper graph n e (line_of graph e) (line_is graph acyclic e)) ∙ ap (λ o. joined o (Some (e ∷ []))) above in
    cc
