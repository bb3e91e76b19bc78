-- The steps of a walk tell which members lead to a marked one, where they are right.
use Rattle.std.proofs.Common.{◌≡◌, ℕ, zero, suc, ◌<◌, ◌≤◌, Bool, true, false, not, ◌||◌, ◌&&◌, ◌==◌, nat_lt, List, length, ⊎_elim, refl, sym, ◌∙◌, arith}
use Rattle.std.proofs.lemmas.Bool.{cases_Bool, eqb-true}
use Rattle.std.proofs.lemmas.Bool.Decides.{nat_tests}
use Rattle.plain_data.specs.Numbers.{is_among}
use Rattle.graphs.specs.Graphs.{supertypes, Reaches, IsAncestor, is_ancestor, family}
use Rattle.graphs.proofs.Bounded.{any_at, any_where, is_member, is_ancestor_exact}
use Rattle.graphs.proofs.Certain.{both, is_less, each_passes}
use Rattle.graphs.proofs.Families.{in_family}
use Rattle.graphs.proofs.Sets.{either, or_right}
use Rattle.ex_renamings.specs.Leading.{is_marked, leads, steps_of, leads_on, none_leads, some_leads_on, is_right}

module _ (graph : List (List ℕ)) where
  -- one step, and then what the next leads to
  pub family_next : (e m a : ℕ) → is_among (supertypes graph e) m ≡ true → is_among (family graph m) a ≡ true → is_among (family graph e) a ≡ true
  family_next e m a step there =
      let parts = both (nat_lt a (length graph)) (a == m || is_ancestor graph m a) (sym (in_family graph m a) ∙ there) in
      let above : IsAncestor graph e a = ⊎_elim
      (λ (is : (a == m) ≡ true). (0, (rw (eqb-true a m is) step)))
      (λ (further : is_ancestor graph m a ≡ true). let rest = (is_ancestor_exact graph m a).0 further in (suc rest.0, (m, (step, rest.1))))
      (either (a == m) (is_ancestor graph m a) parts.1) in
      in_family graph e a ∙ rw (parts.0, (is_ancestor_exact graph e a).1 above) (or_right (a == e) true refl)

  pub family_itself : (e : ℕ) → e < length graph → is_among (family graph e) e ≡ true
  family_itself e within = in_family graph e e ∙ grind (arith, nat_tests)

module _ (graph : List (List ℕ)) (marks : List Bool) (steps : List ℕ) (right : (m : ℕ) → m < length graph → is_right graph marks steps m ≡ true) where
  -- ---- where there are steps

  right_some : (m : ℕ) → m < length graph → (steps_of steps m == zero) ≡ false → (is_marked marks m || some_leads_on graph steps m) ≡ true
  right_some m within some = let all = right m within in rw some at all

  right_none : (m : ℕ) → m < length graph → (steps_of steps m == zero) ≡ true → (not (is_marked marks m) && none_leads graph steps m) ≡ true
  right_none m within none = let all = right m within in rw none at all

  leads_some : (fuel m : ℕ) → m < length graph → steps_of steps m ≤ fuel → (steps_of steps m == zero) ≡ false → leads graph marks m ≡ true
  leads_some zero m within few some = absurd (grind (arith, nat_tests))
  leads_some (suc fuel) m within few some = ⊎_elim
      (λ (here : is_marked marks m ≡ true). any_at (is_marked marks) (family graph m) m (family_itself graph m within) here)
      (λ (later : some_leads_on graph steps m ≡ true).
      let next = any_where (λ n. leads_on (length graph) steps m n) (supertypes graph m) later in
      let n = next.0 in
      let outer = both (nat_lt n (length graph) && nat_lt zero (steps_of steps n)) (nat_lt (steps_of steps n) (steps_of steps m)) next.1.1 in
      let inner = both (nat_lt n (length graph)) (nat_lt zero (steps_of steps n)) outer.0 in
      let less : steps_of steps n < steps_of steps m = is_less (steps_of steps n) (steps_of steps m) outer.1 in
      let above : zero < steps_of steps n = is_less zero (steps_of steps n) inner.1 in
      let there = leads_some fuel n (is_less n (length graph) inner.0) (omega arith) (grind (arith, nat_tests)) in
      let found = any_where (is_marked marks) (family graph n) there in
      any_at (is_marked marks) (family graph m) found.0 (family_next graph m n found.0 next.1.0 found.1.0) found.1.1)
      (either (is_marked marks m) (some_leads_on graph steps m) (right_some m within some))

  -- ---- where there are none

  none_next : (m n : ℕ) → (steps_of steps m == zero) ≡ true → is_among (supertypes graph m) n ≡ true → (steps_of steps n == zero) ≡ true
  none_next m n none there =
      let parts = both (not (is_marked marks m)) (none_leads graph steps m) (right_none m (is_member graph m n there) none) in
      each_passes (λ next. steps_of steps next == zero) (supertypes graph m) parts.1 n there

  none_reached : (k m a : ℕ) → (steps_of steps m == zero) ≡ true → Reaches graph k m a → (steps_of steps a == zero) ≡ true
  none_reached zero m a none there = none_next m a none there
  none_reached (suc k) m a none there = none_reached k there.0 a (none_next m there.0 none there.1.0) there.1.1

  none_marked : (m a : ℕ) → (steps_of steps m == zero) ≡ true → is_among (family graph m) a ≡ true → is_marked marks a ≡ false
  none_marked m a none there =
      let parts = both (nat_lt a (length graph)) (a == m || is_ancestor graph m a) (sym (in_family graph m a) ∙ there) in
      let zero_there : (steps_of steps a == zero) ≡ true = ⊎_elim
      (λ (is : (a == m) ≡ true). rw (eqb-true a m is) none)
      (λ (further : is_ancestor graph m a ≡ true). let way = (is_ancestor_exact graph m a).0 further in none_reached way.0 m a none way.1)
      (either (a == m) (is_ancestor graph m a) parts.1) in
      let here = both (not (is_marked marks a)) (none_leads graph steps a) (right_none a (is_less a (length graph) parts.0) zero_there) in
      unmarked (is_marked marks a) here.0
    where
      unmarked : (b : Bool) → not b ≡ true → b ≡ false
      unmarked true h = cc
      unmarked false h = refl

  leads_none : (m : ℕ) → (steps_of steps m == zero) ≡ true → leads graph marks m ≡ false
  leads_none m none = ⊎_elim
      (λ (is : leads graph marks m ≡ true).
      let found = any_where (is_marked marks) (family graph m) is in
      let not_there = none_marked m found.0 none found.1.0 in
      absurd cc)
      (λ (isnt : leads graph marks m ≡ false). isnt)
      (cases_Bool (leads graph marks m))

  -- the steps tell it
  pub steps_exact : (m : ℕ) → m < length graph → nat_lt zero (steps_of steps m) ≡ leads graph marks m
  steps_exact m within = ⊎_elim
      (λ (none : (steps_of steps m == zero) ≡ true). let told = leads_none m none in (grind (arith, nat_tests)) ∙ sym told)
      (λ (some : (steps_of steps m == zero) ≡ false). let told = leads_some (steps_of steps m) m within (omega arith) some in (grind (arith, nat_tests)) ∙ sym told)
      (cases_Bool (steps_of steps m == zero))
