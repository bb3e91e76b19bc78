-- What was found of a graph's members tells which are their own ancestors, where it is certain.
use Rattle.std.proofs.Common.{◌≡◌, ℕ, zero, suc, ◌<◌, Bool, true, false, ◌&&◌, ◌==◌, nat_lt, List, [], ◌∷◌, length, ◌⊎◌, inl, inr, ⊎_elim, refl, sym, ◌∙◌, ap, arith}
use Rattle.std.proofs.lemmas.Bool.{eq-eqb, eqb-true}
use Rattle.std.proofs.lemmas.Bool.Decides.{nat_tests}
use Rattle.std.specs.List.{list_all}
use Rattle.std.specs.Prelude.{slice_get}
use Rattle.plain_data.specs.Numbers.{is_among}
use Rattle.graphs.specs.Graphs.{supertypes, Reaches, IsAncestor, is_ancestor}
use Rattle.graphs.specs.Traces as traced
use Rattle.graphs.specs.declared.walks.Trace.{Trace}
use Rattle.graphs.proofs.Bounded.{any_at, any_where, is_member, answer_is}
use Rattle.graphs.proofs.Search.{ancestor_above, ancestor_direct}
use Rattle.graphs.proofs.Sets.{either, or_right}

pub both : (a b : Bool) → (a && b) ≡ true → (a ≡ true) × (b ≡ true)
both true b h = (refl, h)
both false b h = cc

pub is_less : (m n : ℕ) → nat_lt m n ≡ true → m < n
is_less m n h = grind (arith, nat_tests)

pub each_passes : (p : ℕ → Bool) (xs : List ℕ) → list_all p xs ≡ true → (a : ℕ) → is_among xs a ≡ true → p a ≡ true
each_passes p [] all a h = cc
each_passes p (x ∷ xs) all a h =
    let parts = both (p x) (list_all p xs) all in
    ⊎_elim
    (λ (is : (x == a) ≡ true). rw (← eqb-true x a is) parts.0)
    (λ (there : is_among xs a ≡ true). each_passes p xs parts.1 a there)
    (either (x == a) (is_among xs a) h)

-- what a list has at a place is among it
is_there : (xs : List ℕ) (place a : ℕ) → traced.is_that (slice_get xs place) a ≡ true → is_among xs a ≡ true
is_there [] place a h = cc
is_there (x ∷ xs) zero a h = rw h refl
is_there (x ∷ xs) (suc place) a h = or_right (x == a) (is_among xs a) (is_there xs place a h)

module _ (graph : List (List ℕ)) where
  on_top : (e m a : ℕ) → is_among (supertypes graph e) m ≡ true → IsAncestor graph m a → IsAncestor graph e a
  on_top e m a step ancestor = (suc ancestor.0, (m, (step, ancestor.1)))

  pub through : (n e m a : ℕ) → Reaches graph n e m → IsAncestor graph m a → IsAncestor graph e a
  through zero e m a reaches above = on_top e m a reaches above
  through (suc n) e m a reaches above = on_top e reaches.0 a reaches.1.0 (through n reaches.0 m a reaches.1.1 above)

  -- the second is the first or an ancestor of it
  abbrev pub Up : ℕ → ℕ → Type 0
  Up e a = (e ≡ a) ⊎ IsAncestor graph e a

module _ (graph : List (List ℕ)) (traces : List Trace) (certain : (m : ℕ) → m < length graph → traced.is_certain graph traces m ≡ true) where
  abbrev root : ℕ → ℕ
  root m = (traced.trace_of traces m).root

  abbrev turn : ℕ → ℕ
  turn m = (traced.trace_of traces m).turn

  abbrev depth : ℕ → ℕ
  depth m = (traced.trace_of traces m).depth

  -- each step leads to the same ring or to a later one
  step : (e a : ℕ) → is_among (supertypes graph e) a ≡ true → ((a < length graph) × (root a ≡ root e)) ⊎ (turn (root e) < turn (root a))
  step e a there =
      let sure = certain e (is_member graph e a there) in
      let up = each_passes (λ b. traced.goes_up (length graph) traces e b) (supertypes graph e) (both _ _ sure).0 a there in
      ⊎_elim
      (λ (level : (nat_lt a (length graph) && traced.is_level traces e a) ≡ true).
      let parts = both _ _ level in
      inl (is_less a (length graph) parts.0, eqb-true (root a) (root e) parts.1))
      (λ (later : traced.is_earlier traces (root e) (root a) ≡ true). inr (is_less (turn (root e)) (turn (root a)) later))
      (either _ _ up)

  steps : (n e a : ℕ) → Reaches graph n e a → (root a ≡ root e) ⊎ (turn (root e) < turn (root a))
  steps zero e a reaches = ⊎_elim
      (λ (level : (a < length graph) × (root a ≡ root e)). inl level.1)
      (λ (later : turn (root e) < turn (root a)). inr later)
      (step e a reaches)
  steps (suc n) e a reaches = ⊎_elim
      (λ (first : (reaches.0 < length graph) × (root reaches.0 ≡ root e)). rw (← first.1) (steps n reaches.0 a reaches.1.1))
      (λ (first : turn (root e) < turn (root reaches.0)). ⊎_elim
      (λ (level : root a ≡ root reaches.0). inr (rw level first))
      (λ (later : turn (root reaches.0) < turn (root a)). inr (omega arith))
      (steps n reaches.0 a reaches.1.1))
      (step e reaches.0 reaches.1.0)

  -- an ancestor of itself has a supertype in its ring
  level_of : (n e : ℕ) → Reaches graph n e e → (a : ℕ) × ((is_among (supertypes graph e) a ≡ true) × (root a ≡ root e))
  level_of zero e reaches = (e, (reaches, refl))
  level_of (suc n) e reaches = ⊎_elim
      (λ (first : (reaches.0 < length graph) × (root reaches.0 ≡ root e)). (reaches.0, (reaches.1.0, first.1)))
      (λ (first : turn (root e) < turn (root reaches.0)). ⊎_elim
      (λ (level : root e ≡ root reaches.0). let same = ap turn level in absurd (omega arith))
      (λ (later : turn (root reaches.0) < turn (root e)). absurd (omega arith))
      (steps n reaches.0 e reaches.1.1))
      (step e reaches.0 reaches.1.0)

  joined : (m : ℕ) → m < length graph → traced.is_joined graph traces m ≡ true
  joined m within = (both _ _ (certain m within)).1

  -- a member leads to its root
  pub to_root : (n m : ℕ) → m < length graph → turn m < n → Up graph m (root m)
  to_root zero m within less = absurd (omega arith)
  to_root (suc n) m within less = ⊎_elim
      (λ (is : (root m == m) ≡ true). inl (sym (eqb-true (root m) m is)))
      (λ (linked : (traced.some_leads_on graph traces m && traced.is_listed graph (traced.trace_of traces m).from (traced.trace_of traces m).place m && traced.leads_back traces m) ≡ true).
      let found = any_where (λ b. traced.leads_on traces m b) (supertypes graph m) (both _ _ (both _ _ linked).0).0 in
      let next = found.0 in
      let parts = both _ _ found.1.1 in
      let level : root next ≡ root m = eqb-true (root next) (root m) parts.0 in
      let earlier : turn next < turn m = is_less (turn next) (turn m) parts.1 in
      let inside : next < length graph = ⊎_elim
      (λ (in_ring : (next < length graph) × (root next ≡ root m)). in_ring.0)
      (λ (later : turn (root m) < turn (root next)). let same = ap turn level in absurd (omega arith))
      (step m next found.1.0) in
      ⊎_elim
      (λ (is : next ≡ root next). inr (ancestor_direct graph m (root m) (rw (← level, ← is) found.1.0)))
      (λ (above : IsAncestor graph next (root next)). inr (on_top graph m next (root m) found.1.0 (rw level at above)))
      (to_root n next inside (omega arith)))
      (either _ _ (joined m within))

  -- and its root to it
  pub from_root : (n m : ℕ) → m < length graph → depth m < n → Up graph (root m) m
  from_root zero m within less = absurd (omega arith)
  from_root (suc n) m within less = ⊎_elim
      (λ (is : (root m == m) ≡ true). inl (eqb-true (root m) m is))
      (λ (linked : (traced.some_leads_on graph traces m && traced.is_listed graph (traced.trace_of traces m).from (traced.trace_of traces m).place m && traced.leads_back traces m) ≡ true).
      let before = (traced.trace_of traces m).from in
      let ends = both _ _ linked in
      let there : is_among (supertypes graph before) m ≡ true = is_there (supertypes graph before) (traced.trace_of traces m).place m (both _ _ ends.0).1 in
      let parts = both _ _ ends.1 in
      let level : root before ≡ root m = eqb-true (root before) (root m) parts.0 in
      let nearer : depth before < depth m = is_less (depth before) (depth m) parts.1 in
      ⊎_elim
      (λ (is : root before ≡ before). inr (ancestor_direct graph (root m) m (rw (← level, is) there)))
      (λ (above : IsAncestor graph (root before) before). inr (ancestor_above graph (root m) before m (rw level at above) there))
      (from_root n before (is_member graph before m there) (omega arith)))
      (either _ _ (joined m within))

  -- who has a supertype in its ring is its own ancestor
  round : (m a : ℕ) → is_among (supertypes graph m) a ≡ true → root a ≡ root m → IsAncestor graph m m
  round m a there level =
      let within = is_member graph m a there in
      let inside : a < length graph = ⊎_elim
      (λ (in_ring : (a < length graph) × (root a ≡ root m)). in_ring.0)
      (λ (later : turn (root m) < turn (root a)). let same = ap turn level in absurd (omega arith))
      (step m a there) in
      let back : (root m ≡ m) ⊎ IsAncestor graph (root m) m = from_root (suc (depth m)) m within (omega arith) in
      let on : (a ≡ root m) ⊎ IsAncestor graph a (root m) = rw level at (to_root (suc (turn a)) a inside (omega arith)) in
      ⊎_elim
      (λ (at : a ≡ root m). ⊎_elim
      (λ (is : root m ≡ m). let same : a ≡ m = at ∙ is in ancestor_direct graph m m (rw same at there))
      (λ (down : IsAncestor graph (root m) m). on_top graph m a m there (rw at down))
      back)
      (λ (up : IsAncestor graph a (root m)). ⊎_elim
      (λ (is : root m ≡ m). on_top graph m a m there (rw is at up))
      (λ (down : IsAncestor graph (root m) m). on_top graph m a m there (through graph up.0 a (root m) m up.1 down))
      back)
      on

  pub level_exact : (m : ℕ) → traced.has_level graph traces m ≡ is_ancestor graph m m
  level_exact m = answer_is graph m m (traced.has_level graph traces m) (
    (λ some. let found = any_where (λ b. traced.is_level traces m b) (supertypes graph m) some in round m found.0 found.1.0 (eqb-true (root found.0) (root m) found.1.1)),
    (λ ancestor. let found = level_of ancestor.0 m ancestor.1 in any_at (λ b. traced.is_level traces m b) (supertypes graph m) found.0 found.1.0 (eq-eqb (root found.0) (root m) found.1.1)),
  )
