-- A search: what was found, and what is still to be looked at.
use Rattle.std.proofs.Common.{◌≡◌, ℕ, zero, suc, Bool, true, false, ◌||◌, ◌==◌, List, [], ◌∷◌, ◌++◌, ⊎_elim, refl, sym, ◌∙◌, ap}
use Rattle.std.proofs.lemmas.Bool.{cases_Bool, eqb-true}
use Rattle.std.specs.Prelude.{◌↔◌}
use Rattle.plain_data.specs.Numbers.{is_among}
use Rattle.plain_data.proofs.Numbers.{is_among-append}
use Rattle.graphs.specs.Graphs.{supertypes, Reaches, IsAncestor}
use Rattle.graphs.proofs.Sets.{either, or_right, in_first, in_second, in_either, in_last}

-- one step more at the end
further : (graph : List (List ℕ)) (n e m a : ℕ) → Reaches graph n e m → is_among (supertypes graph m) a ≡ true → Reaches graph (suc n) e a
further graph zero e m a reaches next = (m, (reaches, next))
further graph (suc n) e m a reaches next = (reaches.0, (reaches.1.0, further graph n reaches.0 m a reaches.1.1 next))

pub ancestor_above : (graph : List (List ℕ)) (e m a : ℕ) → IsAncestor graph e m → is_among (supertypes graph m) a ≡ true → IsAncestor graph e a
ancestor_above graph e m a ancestor next = (suc ancestor.0, further graph ancestor.0 e m a ancestor.1 next)

pub ancestor_direct : (graph : List (List ℕ)) (e a : ℕ) → is_among (supertypes graph e) a ≡ true → IsAncestor graph e a
ancestor_direct graph e a next = (0, next)

-- the ancestors of a member that were found or are still open, of those that count
pub record Search (graph : List (List ℕ)) (member : ℕ) (counts : ℕ → Bool) (found waiting : List ℕ) : Type 0 where
  pub found_above : (a : ℕ) → is_among found a ≡ true → IsAncestor graph member a
  pub waiting_above : (a : ℕ) → is_among waiting a ≡ true → IsAncestor graph member a
  pub direct : (a : ℕ) → counts a ≡ true → is_among (supertypes graph member) a ≡ true → (is_among found a || is_among waiting a) ≡ true
  pub closed : (m a : ℕ) → counts a ≡ true → is_among found m ≡ true → is_among (supertypes graph m) a ≡ true → (is_among found a || is_among waiting a) ≡ true

-- all count
abbrev pub all : ℕ → Bool
all a = true

pub search_start : (graph : List (List ℕ)) (member : ℕ) (counts : ℕ → Bool) → Search graph member counts [] (supertypes graph member)
search_start graph member counts = record {
  found_above = λ a h. cc;
  waiting_above = λ a h. ancestor_direct graph member a h;
  direct = λ a c h. h;
  closed = λ m a c h. cc;
}

still : (f o p n : Bool) → (o ≡ true → p ≡ true) → (f || (o || (n || false))) ≡ true → ((n || f) || p) ≡ true
still f o p true kept h = refl
still true o p false kept h = refl
still false true p false kept h = kept refl
still false false p false kept h = cc

module _ (graph : List (List ℕ)) (member : ℕ) (counts : ℕ → Bool) (found more rest : List ℕ) (next : ℕ)
    (adds : (n : ℕ) → is_among more n ≡ ((next == n) || is_among found n))
    (search : Search graph member counts found (rest ++ next ∷ [])) where
  kept : (waiting : List ℕ) → ((a : ℕ) → is_among rest a ≡ true → is_among waiting a ≡ true) → (a : ℕ) → (is_among found a || is_among (rest ++ next ∷ []) a) ≡ true → (is_among more a || is_among waiting a) ≡ true
  kept waiting keeps a h = rw (adds a) (still (is_among found a) (is_among rest a) (is_among waiting a) (next == a) (keeps a) (ap (λ b. is_among found a || b) (sym (is_among-append rest (next ∷ []) a)) ∙ h))

  next_above : IsAncestor graph member next
  next_above = search.waiting_above next (in_last rest next)

  more_above : (a : ℕ) → is_among more a ≡ true → IsAncestor graph member a
  more_above a h = ⊎_elim
      (λ (is : (next == a) ≡ true). rw (← eqb-true next a is) next_above)
      (λ (was : is_among found a ≡ true). search.found_above a was)
      (either (next == a) (is_among found a) (sym (adds a) ∙ h))

  step : (waiting : List ℕ) → ((a : ℕ) → is_among rest a ≡ true → is_among waiting a ≡ true) → ((a : ℕ) → is_among waiting a ≡ true → IsAncestor graph member a)
      → ((a : ℕ) → counts a ≡ true → is_among (supertypes graph next) a ≡ true → (is_among more a || is_among waiting a) ≡ true) → Search graph member counts more waiting
  step waiting keeps above there = record {
    found_above = more_above;
    waiting_above = above;
    direct = λ a c h. kept waiting keeps a (search.direct a c h);
    closed = λ m a c h s. ⊎_elim
        (λ (is : (next == m) ≡ true). there a c (rw (eqb-true next m is) s))
        (λ (was : is_among found m ≡ true). kept waiting keeps a (search.closed m a c was s))
        (either (next == m) (is_among found m) (sym (adds m) ∙ h));
  }

  pub search_known : is_among found next ≡ true → Search graph member counts more rest
  search_known known = step rest (λ a h. h) (λ a h. search.waiting_above a (in_first rest (next ∷ []) a h))
      (λ a c s. kept rest (λ b h. h) a (search.closed next a c known s))

  pub search_new : Search graph member counts more (rest ++ supertypes graph next)
  search_new = step (rest ++ supertypes graph next) (λ a h. in_first rest (supertypes graph next) a h)
      (λ a h. ⊎_elim
      (λ (was : is_among rest a ≡ true). search.waiting_above a (in_first rest (next ∷ []) a was))
      (λ (new : is_among (supertypes graph next) a ≡ true). ancestor_above graph member next a next_above new)
      (in_either rest (supertypes graph next) a h))
      (λ a c s. or_right (is_among more a) (is_among (rest ++ supertypes graph next) a) (in_second rest (supertypes graph next) a s))

module _ (graph : List (List ℕ)) (member : ℕ) (counts : ℕ → Bool) (found rest : List ℕ) (next : ℕ) (search : Search graph member counts found (rest ++ next ∷ [])) (other : counts next ≡ false) where
  without : (a : ℕ) → counts a ≡ true → (is_among found a || is_among (rest ++ next ∷ []) a) ≡ true → (is_among found a || is_among rest a) ≡ true
  without a c h = ⊎_elim
      (λ (is : (next == a) ≡ true). let same : next ≡ a = eqb-true next a is in let none : counts a ≡ false = rw (← same) other in cc)
      (λ (apart : (next == a) ≡ false). let parts = is_among-append rest (next ∷ []) a in drop_last (is_among found a) (is_among rest a) (next == a) apart (ap (λ b. is_among found a || b) (sym parts) ∙ h))
      (cases_Bool (next == a))
    where
      drop_last : (f o n : Bool) → n ≡ false → (f || (o || (n || false))) ≡ true → (f || o) ≡ true
      drop_last true o n e h = refl
      drop_last false true n e h = refl
      drop_last false false true e h = cc
      drop_last false false false e h = h

  -- who doesn't count is left out
  pub search_less : Search graph member counts found rest
  search_less = record {
    found_above = search.found_above;
    waiting_above = λ a h. search.waiting_above a (in_first rest (next ∷ []) a h);
    direct = λ a c h. without a c (search.direct a c h);
    closed = λ m a c h s. without a c (search.closed m a c h s);
  }

no_more : (a : Bool) → (a || false) ≡ true → a ≡ true
no_more true h = refl
no_more false h = h

-- Who has one above it that counts counts too.
module _ (graph : List (List ℕ)) (counts : ℕ → Bool) (back : (m a : ℕ) → is_among (supertypes graph m) a ≡ true → counts a ≡ true → counts m ≡ true) where
  pub count_back : (n e a : ℕ) → Reaches graph n e a → counts a ≡ true → counts e ≡ true
  count_back zero e a reaches c = back e a reaches c
  count_back (suc n) e a reaches c = back e reaches.0 reaches.1.0 (count_back n reaches.0 a reaches.1.1 c)

  module _ (found : List ℕ) (closed : (m a : ℕ) → counts a ≡ true → is_among found m ≡ true → is_among (supertypes graph m) a ≡ true → is_among found a ≡ true) where
    pub all_found : (n e a : ℕ) → ((m : ℕ) → counts m ≡ true → is_among (supertypes graph e) m ≡ true → is_among found m ≡ true) → counts a ≡ true → Reaches graph n e a → is_among found a ≡ true
    all_found zero e a there c reaches = there a c reaches
    all_found (suc n) e a there c reaches =
        let known = there reaches.0 (count_back n reaches.0 a reaches.1.1 c) reaches.1.0 in
        all_found n reaches.0 a (λ m d s. closed reaches.0 m d known s) c reaches.1.1

  search_done : (member : ℕ) (found : List ℕ) → Search graph member counts found [] → (a : ℕ) → counts a ≡ true → IsAncestor graph member a → is_among found a ≡ true
  search_done member found search a c ancestor =
      all_found found (λ m b d h s. no_more (is_among found b) (search.closed m b d h s)) ancestor.0 member a (λ m d s. no_more (is_among found m) (search.direct m d s)) c ancestor.1

  -- what was found is what is above, in whatever list it is told
  pub search_exact : (member : ℕ) (found waiting told : List ℕ) → waiting ≡ [] → told ≡ found → Search graph member counts found waiting → (a : ℕ) → counts a ≡ true → (is_among told a ≡ true) ↔ IsAncestor graph member a
  search_exact member found waiting told none same search a c =
      let end : Search graph member counts found [] = rw (← none) search in
      ((λ there. search.found_above a (rw (← same) there)), (λ ancestor. rw same (search_done member found end a c ancestor)))
