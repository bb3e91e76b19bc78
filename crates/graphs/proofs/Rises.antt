-- Lists in which the supertypes of a member stand before it.
use Rattle.std.proofs.Common.{◌≡◌, ℕ, zero, suc, Bool, true, false, ◌||◌, ◌==◌, List, [], ◌∷◌, ◌++◌, append_assoc, Option, Some, ⊎_elim, refl, ap}
use Rattle.std.proofs.lemmas.Bool.{eq-eqb, eqb-true}
use Rattle.plain_data.specs.Numbers.{is_among}
use Rattle.graphs.specs.Graphs.{supertypes, joined_at, line_within}
use Rattle.graphs.proofs.Lines.{joined_some}
use Rattle.graphs.proofs.Sets.{either, or_right, in_first, in_second, in_either, in_last}

-- the supertypes of each stand before it, in the list or in what is before the list
abbrev pub Rises : List (List ℕ) → List ℕ → List ℕ → Type 0
Rises graph before [] = Unit {0}
Rises graph before (x ∷ xs) = ((a : ℕ) → is_among (supertypes graph x) a ≡ true → is_among before a ≡ true) × Rises graph (before ++ x ∷ []) xs

-- the supertypes of each are there
abbrev pub Closed : List (List ℕ) → List ℕ → Type 0
Closed graph xs = (m a : ℕ) → is_among xs m ≡ true → is_among (supertypes graph m) a ≡ true → is_among xs a ≡ true

module _ (graph : List (List ℕ)) where
  more_one : (b c : List ℕ) (x : ℕ) → ((a : ℕ) → is_among b a ≡ true → is_among c a ≡ true) → (a : ℕ) → is_among (b ++ x ∷ []) a ≡ true → is_among (c ++ x ∷ []) a ≡ true
  more_one b c x more a h = ⊎_elim
      (λ (there : is_among b a ≡ true). in_first c (x ∷ []) a (more a there))
      (λ (last : is_among (x ∷ []) a ≡ true). in_second c (x ∷ []) a last)
      (in_either b (x ∷ []) a h)

  rises_more : (b c xs : List ℕ) → ((a : ℕ) → is_among b a ≡ true → is_among c a ≡ true) → Rises graph b xs → Rises graph c xs
  rises_more b c [] more rises = tt
  rises_more b c (x ∷ xs) more rises = ((λ a s. more a (rises.0 a s)), rises_more (b ++ x ∷ []) (c ++ x ∷ []) xs (more_one b c x more) rises.1)

  rises_both : (b xs ys : List ℕ) → Rises graph b xs → Rises graph (b ++ xs) ys → Rises graph b (xs ++ ys)
  rises_both b [] ys first second = rises_more (b ++ []) b ys (λ a h. ⊎_elim (λ (there : is_among b a ≡ true). there) (λ (none : is_among [] a ≡ true). cc) (in_either b [] a h)) second
  rises_both b (x ∷ xs) ys first second = (first.0, rises_both (b ++ x ∷ []) xs ys first.1 (rw append_assoc second))

  pub rises_first : (b xs ys : List ℕ) → Rises graph b (xs ++ ys) → Rises graph b xs
  rises_first b [] ys rises = tt
  rises_first b (x ∷ xs) ys rises = (rises.0, rises_first (b ++ x ∷ []) xs ys rises.1)

  closed_one : (b : List ℕ) (x : ℕ) → Closed graph b → ((a : ℕ) → is_among (supertypes graph x) a ≡ true → is_among b a ≡ true) → Closed graph (b ++ x ∷ [])
  closed_one b x closed above m a h s = in_first b (x ∷ []) a (⊎_elim
      (λ (there : is_among b m ≡ true). closed m a there s)
      (λ (last : is_among (x ∷ []) m ≡ true). above a (rw (eqb-true x m (only (x == m) last)) s))
      (in_either b (x ∷ []) m h))
    where
      only : (t : Bool) → (t || false) ≡ true → t ≡ true
      only true e = refl
      only false e = e

  pub rises_closed : (b xs : List ℕ) → Closed graph b → Rises graph b xs → Closed graph (b ++ xs)
  rises_closed b [] closed rises = λ m a h s. in_first b [] a (closed m a (⊎_elim (λ (there : is_among b m ≡ true). there) (λ (none : is_among [] m ≡ true). cc) (in_either b [] m h)) s)
  rises_closed b (x ∷ xs) closed rises = rw (← append_assoc b (x ∷ []) xs) (rises_closed (b ++ x ∷ []) xs (closed_one b x closed rises.0) rises.1)

  -- ---- a line

  -- it rises, whatever stands before it, and has its member
  abbrev IsGood : ℕ → List ℕ → Type 0
  IsGood e l = ((b : List ℕ) → Rises graph b l) × (is_among l e ≡ true)

  good_at : (f : ℕ → Option (List ℕ)) → ((s : ℕ) (l : List ℕ) → f s ≡ Some l → IsGood s l) → (ss m : List ℕ) → joined_at f ss ≡ Some m → ((b : List ℕ) → Rises graph b m) × ((s : ℕ) → is_among ss s ≡ true → is_among m s ≡ true)
  good_at f good [] m e = let none : [] ≡ m = cc in rw (← none) ((λ b. tt), (λ s h. h))
  good_at f good (s ∷ ss) m e =
      let parts = joined_some (f s) (joined_at f ss) m e in
      let first = good s parts.0 parts.1.1.0 in
      let later = good_at f good ss parts.1.0 parts.1.1.1.0 in
      rw parts.1.1.1.1 (
        (λ b. rises_both b parts.0 parts.1.0 (first.0 b) (later.0 (b ++ parts.0))),
        (λ a h. ⊎_elim
            (λ (is : (s == a) ≡ true). in_first parts.0 parts.1.0 a (rw (← eqb-true s a is) first.1))
            (λ (there : is_among ss a ≡ true). in_second parts.0 parts.1.0 a (later.1 a there))
            (either (s == a) (is_among ss a) h)),
      )

  pub good_line : (n e : ℕ) (l : List ℕ) → line_within n graph e ≡ Some l → IsGood e l
  good_line zero e l h = cc
  good_line (suc n) e l h =
      let parts = joined_some (joined_at (line_within n graph) (supertypes graph e)) (Some (e ∷ [])) l h in
      let above = good_at (line_within n graph) (λ s k. good_line n s k) (supertypes graph e) parts.0 parts.1.1.0 in
      let last : e ∷ [] ≡ parts.1.0 = cc in
      rw (parts.1.1.1.1, ← last)
      ((λ b. rises_both b parts.0 (e ∷ []) (above.0 b) ((λ a s. in_second b parts.0 a (above.1 a s)), tt)), in_last parts.0 e)

  within_at : (xs : List ℕ) (f : ℕ → Option (List ℕ)) → ((s : ℕ) (l : List ℕ) → f s ≡ Some l → is_among xs s ≡ true → (a : ℕ) → is_among l a ≡ true → is_among xs a ≡ true)
      → (ss m : List ℕ) → joined_at f ss ≡ Some m → ((s : ℕ) → is_among ss s ≡ true → is_among xs s ≡ true) → (a : ℕ) → is_among m a ≡ true → is_among xs a ≡ true
  within_at xs f each [] m e all a h = let none : [] ≡ m = cc in let there = ap (λ l. is_among l a) none in cc
  within_at xs f each (s ∷ ss) m e all a h =
      let parts = joined_some (f s) (joined_at f ss) m e in
      ⊎_elim
      (λ (first : is_among parts.0 a ≡ true). each s parts.0 parts.1.1.0 (all s (rw (eq-eqb s s refl) refl)) a first)
      (λ (later : is_among parts.1.0 a ≡ true). within_at xs f each ss parts.1.0 parts.1.1.1.0 (λ t g. all t (or_right (s == t) (is_among ss t) g)) a later)
      (in_either parts.0 parts.1.0 a (rw parts.1.1.1.1 at h))

  -- where a list has the supertypes of each, it has the lines of each
  pub line_within_closed : (xs : List ℕ) → Closed graph xs → (n e : ℕ) (l : List ℕ) → line_within n graph e ≡ Some l → is_among xs e ≡ true → (a : ℕ) → is_among l a ≡ true → is_among xs a ≡ true
  line_within_closed xs closed zero e l h there a is = cc
  line_within_closed xs closed (suc n) e l h there a is =
      let parts = joined_some (joined_at (line_within n graph) (supertypes graph e)) (Some (e ∷ [])) l h in
      let last : e ∷ [] ≡ parts.1.0 = cc in
      ⊎_elim
      (λ (above : is_among parts.0 a ≡ true). within_at xs (line_within n graph) (λ s k. line_within_closed xs closed n s k) (supertypes graph e) parts.0 parts.1.1.0 (λ s g. closed e s there g) a above)
      (λ (here : is_among parts.1.0 a ≡ true). rw (← eqb-true e a (only (e == a) (rw (← last) at here))) there)
      (in_either parts.0 parts.1.0 a (rw parts.1.1.1.1 at is))
    where
      only : (t : Bool) → (t || false) ≡ true → t ≡ true
      only true e = refl
      only false e = e
