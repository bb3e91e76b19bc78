-- The members of a line: closed under supertypes, each but the last below which all others are, and connected.
use Rattle.std.proofs.Common.{◌≡◌, ℕ, zero, suc, Bool, true, false, ◌||◌, ◌==◌, List, [], ◌∷◌, ◌++◌, Option, Some, None, ◌⊎◌, inl, inr, ⊎_elim, refl, sym, ◌∙◌, ap, subst}
use Rattle.std.proofs.lemmas.Bool.{cases_Bool, eq-eqb, eqb-true}
use Rattle.plain_data.specs.Numbers.{is_among}
use Rattle.graphs.specs.Graphs.{supertypes, joined, joined_at, line_within}
use Rattle.graphs.proofs.Sets.{either, in_either, in_first, in_last, in_second, or_left, or_right}
use Rattle.graphs.proofs.Lines.{joined_some}
use Rattle.ex_subtypes.specs.Legal.{is_beside}

module _ (graph : List (List ℕ)) where
  -- what is joined at some numbers: each of its members comes from one of them, and each of them gives all of its own
  from_one : (f : ℕ → Option (List ℕ)) (ss above : List ℕ) (m : ℕ) → joined_at f ss ≡ Some above → is_among above m ≡ true
      → (s : ℕ) × ((k : List ℕ) × ((is_among ss s ≡ true) × ((f s ≡ Some k) × (is_among k m ≡ true))))
  from_one f [] above m is there = let none : is_among above m ≡ false = (let e : [] ≡ above = cc in rw (← e) refl) in cc
  from_one f (s ∷ ss) above m is there =
      let parts = joined_some (f s) (joined_at f ss) above is in
      let k = parts.0 in
      let rest = parts.1.0 in
      ⊎_elim
      (λ (here : is_among k m ≡ true). (s, (k, (or_left (s == s) (is_among ss s) (eq-eqb s s refl), (parts.1.1.0, here)))))
      (λ (later : is_among rest m ≡ true).
      let found = from_one f ss rest m parts.1.1.1.0 later in
      (found.0, (found.1.0, (or_right (s == found.0) (is_among ss found.0) found.1.1.0, (found.1.1.1.0, found.1.1.1.1)))))
      (in_either k rest m (ap (λ l. is_among l m) (sym parts.1.1.1.1) ∙ there))

  all_of : (f : ℕ → Option (List ℕ)) (ss above : List ℕ) (s : ℕ) → joined_at f ss ≡ Some above → is_among ss s ≡ true
      → (k : List ℕ) × ((f s ≡ Some k) × ((m : ℕ) → is_among k m ≡ true → is_among above m ≡ true))
  all_of f [] above s is there = cc
  all_of f (t ∷ ss) above s is there =
      let parts = joined_some (f t) (joined_at f ss) above is in
      let k = parts.0 in
      let rest = parts.1.0 in
      ⊎_elim
      (λ (here : (t == s) ≡ true).
      (k, (ap f (sym (eqb-true t s here)) ∙ parts.1.1.0, (λ m h. ap (λ l. is_among l m) parts.1.1.1.1 ∙ in_first k rest m h))))
      (λ (later : is_among ss s ≡ true).
      let found = all_of f ss rest s parts.1.1.1.0 later in
      (found.0, (found.1.0, (λ m h. ap (λ l. is_among l m) parts.1.1.1.1 ∙ in_second k rest m (found.1.1 m h)))))
      (either (t == s) (is_among ss s) there)

  -- a line that is there is made of those above, and then its member
  abbrev Made : ℕ → ℕ → List ℕ → Type 0
  Made n e l = (above : List ℕ) × ((joined_at (line_within n graph) (supertypes graph e) ≡ Some above) × (l ≡ above ++ e ∷ []))

  made : (n e : ℕ) (l : List ℕ) → line_within (suc n) graph e ≡ Some l → Made n e l
  made n e l is =
      let parts = joined_some (joined_at (line_within n graph) (supertypes graph e)) (Some (e ∷ [])) l is in
      let one : e ∷ [] ≡ parts.1.0 = cc in
      (parts.0, (parts.1.1.0, parts.1.1.1.1 ∙ ap (λ k. parts.0 ++ k) (sym one)))

  pub has_itself : (n e : ℕ) (l : List ℕ) → line_within n graph e ≡ Some l → is_among l e ≡ true
  has_itself zero e l is = cc
  has_itself (suc n) e l is = let m = made n e l is in ap (λ k. is_among k e) m.1.1 ∙ in_last m.0 e

  -- a member of a line is its last, or of the line of one of its supertypes
  abbrev Within : ℕ → ℕ → List ℕ → ℕ → Type 0
  Within n e l m = (s : ℕ) × ((k : List ℕ) × ((is_among (supertypes graph e) s ≡ true) × ((line_within n graph s ≡ Some k) × ((is_among k m ≡ true) × ((j : ℕ) → is_among k j ≡ true → is_among l j ≡ true)))))

  parted : (n e : ℕ) (l : List ℕ) (m : ℕ) → line_within (suc n) graph e ≡ Some l → is_among l m ≡ true → (e ≡ m) ⊎ Within n e l m
  parted n e l m is there =
      let whole = made n e l is in
      let above = whole.0 in
      ⊎_elim
      (λ (h : is_among above m ≡ true).
      let found = from_one (line_within n graph) (supertypes graph e) above m whole.1.0 h in
      let all = all_of (line_within n graph) (supertypes graph e) above found.0 whole.1.0 found.1.1.0 in
      let same : all.0 ≡ found.1.0 = (let both : Some all.0 ≡ Some found.1.0 = sym all.1.0 ∙ found.1.1.1.0 in cc) in
      inr (
        found.0,
        (
          found.1.0,
          (
            found.1.1.0,
            (
              found.1.1.1.0,
              (
                found.1.1.1.1,
                (λ j h. ap (λ k. is_among k j) whole.1.1 ∙ in_first above (e ∷ []) j (all.1.1 j (ap (λ k. is_among k j) same ∙ h))),
              ),
            ),
          ),
        ),
      ))
      (λ (h : is_among (e ∷ []) m ≡ true). inl (eqb-true e m (⊎_elim (λ (x : (e == m) ≡ true). x) (λ (x : false ≡ true). cc) (either (e == m) false h))))
      (in_either above (e ∷ []) m (ap (λ k. is_among k m) (sym whole.1.1) ∙ there))

  has_above : (n e : ℕ) (l : List ℕ) (s : ℕ) → line_within (suc n) graph e ≡ Some l → is_among (supertypes graph e) s ≡ true → is_among l s ≡ true
  has_above n e l s is there =
      let whole = made n e l is in
      let all = all_of (line_within n graph) (supertypes graph e) whole.0 s whole.1.0 there in
      ap (λ k. is_among k s) whole.1.1 ∙ in_first whole.0 (e ∷ []) s (all.1.1 s (has_itself n s all.0 all.1.0))

  -- ---- closed

  pub closed : (n e : ℕ) (l : List ℕ) → line_within n graph e ≡ Some l → (m s : ℕ) → is_among l m ≡ true → is_among (supertypes graph m) s ≡ true → is_among l s ≡ true
  closed zero e l is m s there above = cc
  closed (suc n) e l is m s there above = ⊎_elim
      (λ (h : e ≡ m). has_above n e l s is (ap (λ x. is_among (supertypes graph x) s) h ∙ above))
      (λ (h : Within n e l m). h.1.1.1.1.1 s (closed n h.0 h.1.0 h.1.1.1.0 m s h.1.1.1.1.0 above))
      (parted n e l m is there)

  -- ---- what is below

  pub below : (n e : ℕ) (l : List ℕ) → line_within n graph e ≡ Some l → (m : ℕ) → is_among l m ≡ true
      → (e ≡ m) ⊎ ((s : ℕ) × ((is_among l s ≡ true) × (is_among (supertypes graph s) m ≡ true)))
  below zero e l is m there = cc
  below (suc n) e l is m there = ⊎_elim
      (λ (h : e ≡ m). inl h)
      (λ (h : Within n e l m).
      ⊎_elim
      (λ (itself : h.0 ≡ m). inr (e, (has_itself (suc n) e l is, ap (is_among (supertypes graph e)) (sym itself) ∙ h.1.1.0)))
      (λ (found : (s : ℕ) × ((is_among h.1.0 s ≡ true) × (is_among (supertypes graph s) m ≡ true))).
      inr (found.0, (h.1.1.1.1.1 found.0 found.1.0, found.1.1)))
      (below n h.0 h.1.0 h.1.1.1.0 m h.1.1.1.1.0))
      (parted n e l m is there)

  -- ---- connected

  -- so many steps from one to the other, each to a member beside
  abbrev pub Linked : List ℕ → ℕ → ℕ → ℕ → Type 0
  Linked l zero a b = a ≡ b
  Linked l (suc n) a b = (c : ℕ) × ((is_among l c ≡ true) × ((is_beside graph a c ≡ true) × Linked l n c b))

  wider : (k l : List ℕ) → ((j : ℕ) → is_among k j ≡ true → is_among l j ≡ true) → (n a b : ℕ) → Linked k n a b → Linked l n a b
  wider k l more zero a b h = h
  wider k l more (suc n) a b h = (h.0, (more h.0 h.1.0, (h.1.1.0, wider k l more n h.0 b h.1.1.1)))

  onwards : (l : List ℕ) (n a b c : ℕ) → Linked l n a b → is_among l c ≡ true → is_beside graph b c ≡ true → Linked l (suc n) a c
  onwards l zero a b c h there next = (c, (there, (ap (λ x. is_beside graph x c) h ∙ next, refl)))
  onwards l (suc n) a b c h there next = (h.0, (h.1.0, (h.1.1.0, onwards l n h.0 b c h.1.1.1 there next)))

  -- from each member down to the last
  pub leads_down : (n e : ℕ) (l : List ℕ) → line_within n graph e ≡ Some l → (m : ℕ) → is_among l m ≡ true → (steps : ℕ) × Linked l steps m e
  leads_down zero e l is m there = cc
  leads_down (suc n) e l is m there = ⊎_elim
      (λ (h : e ≡ m). (zero, sym h))
      (λ (h : Within n e l m).
      let way = leads_down n h.0 h.1.0 h.1.1.1.0 m h.1.1.1.1.0 in (
        suc way.0,
        onwards l way.0 m h.0 e (wider h.1.0 l h.1.1.1.1.1 way.0 m h.0 way.1) (has_itself (suc n) e l is)
            (or_right (is_among (supertypes graph h.0) e) (is_among (supertypes graph e) h.0) h.1.1.0),
      ))
      (parted n e l m is there)

  turned : (a b : ℕ) → is_beside graph a b ≡ true → is_beside graph b a ≡ true
  turned a b h = ⊎_elim
      (λ (up : is_among (supertypes graph a) b ≡ true). or_right (is_among (supertypes graph b) a) (is_among (supertypes graph a) b) up)
      (λ (down : is_among (supertypes graph b) a ≡ true). or_left (is_among (supertypes graph b) a) (is_among (supertypes graph a) b) down)
      (either (is_among (supertypes graph a) b) (is_among (supertypes graph b) a) h)

  back : (l : List ℕ) (n a b : ℕ) → is_among l a ≡ true → Linked l n a b → (m : ℕ) × Linked l m b a
  back l zero a b there h = (zero, sym h)
  back l (suc n) a b there h =
      let rest = back l n h.0 b h.1.0 h.1.1.1 in
      (suc rest.0, onwards l rest.0 b h.0 a rest.1 there (turned a h.0 h.1.1.0))

  joins : (l : List ℕ) (n m a b c : ℕ) → Linked l n a b → Linked l m b c → (k : ℕ) × Linked l k a c
  joins l zero m a b c h g = (m, subst (λ x. Linked l m x c) (sym h) g)
  joins l (suc n) m a b c h g = let rest = joins l n m h.0 b c h.1.1.1 g in (suc rest.0, (h.0, (h.1.0, (h.1.1.0, rest.1))))

  -- from each member to each
  pub connected : (n e : ℕ) (l : List ℕ) → line_within n graph e ≡ Some l → (a b : ℕ) → is_among l a ≡ true → is_among l b ≡ true → (steps : ℕ) × Linked l steps a b
  connected n e l is a b first second =
      let down = leads_down n e l is a first in
      let other = leads_down n e l is b second in
      let up = back l other.0 b e second other.1 in
      joins l down.0 up.0 a e b down.1 up.1
