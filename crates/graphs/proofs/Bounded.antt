-- Who is an ancestor is found within as many steps as there are members.
use Rattle.std.proofs.Common.{◌≡◌, ℕ, zero, suc, ◌<◌, ◌≤◌, ◌+◌, Bool, true, false, ◌||◌, ◌==◌, nat_lt, List, [], ◌∷◌, length, ◌⊎◌, inl, inr, ⊎_elim, refl, sym, ap, arith}
use Rattle.std.proofs.lemmas.Bool.{cases_Bool, eq-eqb, eqb-true}
use Rattle.std.proofs.lemmas.List.{get_or_past}
use Rattle.std.specs.List.{list_any}
use Rattle.std.specs.Prelude.{◌↔◌}
use Rattle.plain_data.specs.Numbers.{is_among}
use Rattle.graphs.specs.Graphs.{supertypes, Reaches, IsAncestor, reaches, is_ancestor}
use Rattle.graphs.proofs.Left.{left, left_all, left_less, within_or, beyond_or}
use Rattle.graphs.proofs.Search.{ancestor_direct}
use Rattle.graphs.proofs.Sets.{either, or_left, or_right}

-- ---- a test on a list of numbers

pub any_at : (p : ℕ → Bool) (xs : List ℕ) (s : ℕ) → is_among xs s ≡ true → p s ≡ true → list_any p xs ≡ true
any_at p [] s there holds = cc
any_at p (x ∷ xs) s there holds = ⊎_elim
    (λ (is : (x == s) ≡ true). or_left (p x) (list_any p xs) (rw (eqb-true x s is) holds))
    (λ (later : is_among xs s ≡ true). or_right (p x) (list_any p xs) (any_at p xs s later holds))
    (either (x == s) (is_among xs s) there)

pub any_where : (p : ℕ → Bool) (xs : List ℕ) → list_any p xs ≡ true → (s : ℕ) × ((is_among xs s ≡ true) × (p s ≡ true))
any_where p [] holds = cc
any_where p (x ∷ xs) holds = ⊎_elim
    (λ (here : p x ≡ true). (x, (rw (eq-eqb x x refl) refl, here)))
    (λ (later : list_any p xs ≡ true). let found = any_where p xs later in (found.0, (or_right (x == found.0) (is_among xs found.0) found.1.0, found.1.1)))
    (either (p x) (list_any p xs) holds)

-- ---- a way off some members

module _ (graph : List (List ℕ)) where
  -- a is reached from e by n + 1 steps, none of them from a member of this list
  abbrev Avoids : List ℕ → ℕ → ℕ → ℕ → Type 0
  Avoids way zero e a = (is_among way e ≡ false) × (is_among (supertypes graph e) a ≡ true)
  Avoids way (suc n) e a = (is_among way e ≡ false) × ((m : ℕ) × ((is_among (supertypes graph e) m ≡ true) × Avoids way n m a))

  -- a is a supertype of e, or reached from one
  abbrev Leads : List ℕ → ℕ → ℕ → Type 0
  Leads way e a = (is_among (supertypes graph e) a ≡ true) ⊎ ((n : ℕ) × ((m : ℕ) × ((is_among (supertypes graph e) m ≡ true) × Avoids way n m a)))

  avoids_none : (n e a : ℕ) → Reaches graph n e a → Avoids [] n e a
  avoids_none zero e a reached = (refl, reached)
  avoids_none (suc n) e a reached = (refl, (reached.0, (reached.1.0, avoids_none n reached.0 a reached.1.1)))

  starts_off : (way : List ℕ) (n e a : ℕ) → Avoids way n e a → is_among way e ≡ false
  starts_off way zero e a avoids = avoids.0
  starts_off way (suc n) e a avoids = avoids.0

  has_supertype : (way : List ℕ) (n e a : ℕ) → Avoids way n e a → (s : ℕ) × (is_among (supertypes graph e) s ≡ true)
  has_supertype way zero e a avoids = (a, avoids.1)
  has_supertype way (suc n) e a avoids = (avoids.1.0, avoids.1.1.0)

  pub is_member : (e s : ℕ) → is_among (supertypes graph e) s ≡ true → e < length graph
  is_member e s there = ⊎_elim
      (λ (h : nat_lt e (length graph) ≡ true). within_or e (length graph) h)
      (λ (h : nat_lt e (length graph) ≡ false). let past = ap (λ l. is_among l s) (get_or_past graph e [] (beyond_or e (length graph) h)) in absurd cc)
      (cases_Bool (nat_lt e (length graph)))

  off_both : (way : List ℕ) (e m : ℕ) → (e == m) ≡ false → is_among way m ≡ false → is_among (e ∷ way) m ≡ false
  off_both way e m other off = rw (other, off) refl

  -- a way either stays off e, or the rest of it from its last step at e does
  last_leave : (way : List ℕ) (e n m a : ℕ) → Avoids way n m a → Avoids (e ∷ way) n m a ⊎ Leads (e ∷ way) e a
  last_leave way e zero m a avoids = ⊎_elim
      (λ (is : (e == m) ≡ true). inr (inl (rw (eqb-true e m is) avoids.1)))
      (λ (other : (e == m) ≡ false). inl (off_both way e m other avoids.0, avoids.1))
      (cases_Bool (e == m))
  last_leave way e (suc n) m a avoids =
      let next = avoids.1.0 in
      ⊎_elim
      (λ (off : Avoids (e ∷ way) n next a). ⊎_elim
      (λ (is : (e == m) ≡ true). inr (inr (n, (next, (rw (eqb-true e m is) avoids.1.1.0, off)))))
      (λ (other : (e == m) ≡ false). inl (off_both way e m other avoids.0, (next, (avoids.1.1.0, off))))
      (cases_Bool (e == m)))
      (λ (leads : Leads (e ∷ way) e a). inr leads)
      (last_leave way e n next a avoids.1.1.1)

  leave_once : (way : List ℕ) (n e a : ℕ) → Avoids way n e a → Leads (e ∷ way) e a
  leave_once way n e a avoids = ⊎_elim
      (λ (off : Avoids (e ∷ way) n e a).
      let here : is_among (e ∷ way) e ≡ true = rw (eq-eqb e e refl) refl in
      let not_here = starts_off (e ∷ way) n e a off in
      absurd cc)
      (λ (leads : Leads (e ∷ way) e a). leads)
      (last_leave way e n e a avoids)

  -- so many steps suffice as there are members off the way
  few_steps : (n : ℕ) (way : List ℕ) (k e a : ℕ) → Avoids way k e a → left (λ s. 1) graph way ≤ n → reaches n graph e a ≡ true
  few_steps zero way k e a avoids few =
      let some = has_supertype way k e a avoids in
      let less : left (λ s. 1) graph (e ∷ way) + 1 ≡ left (λ s. 1) graph way = left_less (λ s. 1) way (e ∷ way) e (λ m. refl) graph (is_member e some.0 some.1) (starts_off way k e a avoids) in
      absurd (omega arith)
  few_steps (suc n) way k e a avoids few =
      let some = has_supertype way k e a avoids in
      let less : left (λ s. 1) graph (e ∷ way) + 1 ≡ left (λ s. 1) graph way = left_less (λ s. 1) way (e ∷ way) e (λ m. refl) graph (is_member e some.0 some.1) (starts_off way k e a avoids) in
      ⊎_elim
      (λ (direct : is_among (supertypes graph e) a ≡ true). any_at (λ s. s == a || reaches n graph s a) (supertypes graph e) a direct (or_left (a == a) (reaches n graph a a) (eq-eqb a a refl)))
      (λ (later : (j : ℕ) × ((m : ℕ) × ((is_among (supertypes graph e) m ≡ true) × Avoids (e ∷ way) j m a))).
      let m = later.1.0 in
      any_at (λ s. s == a || reaches n graph s a) (supertypes graph e) m later.1.1.0
      (or_right (m == a) (reaches n graph m a) (few_steps n (e ∷ way) later.0 m a later.1.1.1 (omega arith))))
      (leave_once way k e a avoids)

  steps_suffice : (e a : ℕ) → IsAncestor graph e a → is_ancestor graph e a ≡ true
  steps_suffice e a ancestor = few_steps (length graph) [] ancestor.0 e a (avoids_none ancestor.0 e a ancestor.1) (let all = left_all graph in omega arith)

  reaches_ancestor : (n e a : ℕ) → reaches n graph e a ≡ true → IsAncestor graph e a
  reaches_ancestor zero e a h = cc
  reaches_ancestor (suc n) e a h =
      let next = any_where (λ s. s == a || reaches n graph s a) (supertypes graph e) h in
      let s = next.0 in
      ⊎_elim
      (λ (is : (s == a) ≡ true). ancestor_direct graph e a (rw (← eqb-true s a is) next.1.0))
      (λ (above : reaches n graph s a ≡ true). let later = reaches_ancestor n s a above in (suc later.0, (s, (next.1.0, later.1))))
      (either (s == a) (reaches n graph s a) next.1.1)

  pub is_ancestor_exact : (e a : ℕ) → (is_ancestor graph e a ≡ true) ↔ IsAncestor graph e a
  is_ancestor_exact e a = ((λ h. reaches_ancestor (length graph) e a h), (λ ancestor. steps_suffice e a ancestor))

  same_answer : (P : Type 0) (b c : Bool) → (b ≡ true) ↔ P → (c ≡ true) ↔ P → b ≡ c
  same_answer P true c first second = sym (second.1 (first.0 refl))
  same_answer P false true first second = first.1 (second.0 refl)
  same_answer P false false first second = refl

  -- an answer that is right is the one that is_ancestor gives
  pub answer_is : (e a : ℕ) (b : Bool) → (b ≡ true) ↔ IsAncestor graph e a → b ≡ is_ancestor graph e a
  answer_is e a b right = same_answer (IsAncestor graph e a) b (is_ancestor graph e a) right (is_ancestor_exact e a)
