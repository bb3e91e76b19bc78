-- What the labels of a graph's rings tell, where they can be relied on.
use Rattle.std.proofs.Common.{◌≡◌, ℕ, zero, suc, ◌<◌, ◌≤◌, true, false, ◌&&◌, ◌==◌, nat_lt, List, length, inl, inr, ⊎_elim, refl, sym, ◌∙◌, ap, arith}
use Rattle.std.proofs.lemmas.Bool.{cases_Bool, eq-eqb, eqb-true, leb-true}
use Rattle.std.proofs.lemmas.Bool.Decides.{nat_tests}
use Rattle.std.proofs.lemmas.List.{get_or_past}
use Rattle.plain_data.specs.Numbers.{is_among}
use Rattle.graphs.specs.Graphs.{supertypes, Reaches, IsAncestor, is_ancestor}
use Rattle.graphs.specs.Traces.{trace_of}
use Rattle.ancestors.specs.Labels as labelled
use Rattle.ancestors.specs.Labels.{IsSure, label_of, unlabelled}
use Rattle.graphs.specs.declared.walks.Trace.{Trace}
use Rattle.ancestors.specs.declared.ways.Label.{Label}
use Rattle.graphs.proofs.Bounded.{is_member, is_ancestor_exact}
use Rattle.graphs.proofs.Certain.{Up, through, to_root, from_root, both, is_less, each_passes}
use Rattle.graphs.proofs.Left.{within_or, beyond_or}
use Rattle.graphs.proofs.Search.{ancestor_direct}
use Rattle.graphs.proofs.Sets.{either, or_left, or_right}

module _ (graph : List (List ℕ)) where
  pub onward : (a b d : ℕ) → Up graph a b → Up graph b d → Up graph a d
  onward a b d first second = ⊎_elim
      (λ (is : a ≡ b). rw is second)
      (λ (above : IsAncestor graph a b). ⊎_elim
      (λ (same : b ≡ d). inr (rw (← same) above))
      (λ (further : IsAncestor graph b d). inr (through graph above.0 a b d above.1 further))
      second)
      first

  pub told_up : (e a : ℕ) → Up graph e a → labelled.is_up graph e a ≡ true
  told_up e a up = ⊎_elim
      (λ (is : e ≡ a). or_left (e == a) (is_ancestor graph e a) (eq-eqb e a is))
      (λ (above : IsAncestor graph e a). or_right (e == a) (is_ancestor graph e a) ((is_ancestor_exact graph e a).1 above))
      up

  pub is_up_from : (e a : ℕ) → labelled.is_up graph e a ≡ true → Up graph e a
  is_up_from e a h = ⊎_elim
      (λ (is : (e == a) ≡ true). inl (eqb-true e a is))
      (λ (above : is_ancestor graph e a ≡ true). inr ((is_ancestor_exact graph e a).0 above))
      (either (e == a) (is_ancestor graph e a) h)

beyond : (labels : List Label) (k : ℕ) → length labels ≤ k → label_of labels k ≡ unlabelled k
unfolding label_of
beyond labels k past = get_or_past labels k (unlabelled k) past

no_jump : (k : ℕ) → (unlabelled k).jump ≡ k
unfolding unlabelled
no_jump k = refl

no_way_up : (k : ℕ) → (unlabelled k).up ≡ k
unfolding unlabelled
no_way_up k = refl

module _ (graph : List (List ℕ)) (traces : List Trace) (labels : List Label) (sure : IsSure graph traces labels) where
  abbrev root : ℕ → ℕ
  root m = (trace_of traces m).root

  abbrev up : ℕ → ℕ
  up k = (label_of labels k).up

  abbrev jump : ℕ → ℕ
  jump k = (label_of labels k).jump

  abbrev depth : ℕ → ℕ
  depth k = (label_of labels k).depth

  rises_to : (m : ℕ) → m < length graph → Up graph m (root m)
  rises_to m within = to_root graph traces sure.certain (suc (trace_of traces m).turn) m within (omega arith)

  falls_to : (m : ℕ) → m < length graph → Up graph (root m) m
  falls_to m within = from_root graph traces sure.certain (suc (trace_of traces m).depth) m within (omega arith)

  joined_up : (k : ℕ) → labelled.is_joined_up graph traces labels k ≡ true → Up graph k (up k)
  joined_up k h =
      let by = (label_of labels k).by in
      let to = (label_of labels k).to in
      let parts = both _ _ h in
      let ends = both _ _ parts.0 in
      let inside = both _ _ ends.0 in
      let roots = both _ _ inside.0 in
      let there : is_among (supertypes graph by) to ≡ true = ends.1 in
      let own : root by ≡ k = eqb-true (root by) k roots.0 in
      let next : root to ≡ up k = eqb-true (root to) (up k) roots.1 in
      let down : Up graph k by = rw own at (falls_to by (is_member graph by to there)) in
      let rest : Up graph to (up k) = rw next at (rises_to to (is_less to (length graph) inside.1)) in
      onward graph k by (up k) down (onward graph by to (up k) (inr (ancestor_direct graph by to there)) rest)

  climb : (k : ℕ) → Up graph k (up k)
  climb k = ⊎_elim
      (λ (within : nat_lt k (length labels) ≡ true). ⊎_elim
      (λ (top : (up k == k) ≡ true). inl (sym (eqb-true (up k) k top)))
      (λ (joined : labelled.is_joined_up graph traces labels k ≡ true). joined_up k joined)
      (either _ _ (both _ _ (sure.sound k (within_or k (length labels) within))).0))
      (λ (past : nat_lt k (length labels) ≡ false). inl (sym (ap (λ l. l.up) (beyond labels k (beyond_or k (length labels) past)) ∙ no_way_up k)))
      (cases_Bool (nat_lt k (length labels)))

  leap : (n k : ℕ) → depth k < n → Up graph k (jump k)
  leap zero k less = absurd (omega arith)
  leap (suc n) k less = ⊎_elim
      (λ (within : nat_lt k (length labels) ≡ true). ⊎_elim
      (λ (one : (jump k == up k) ≡ true). rw (eqb-true (jump k) (up k) one) (climb k))
      (λ (two : (nat_lt (depth (up k)) (depth k) && nat_lt (depth (jump (up k))) (depth k) && (jump k == jump (jump (up k)))) ≡ true).
      let parts = both _ _ two in
      let lower = both _ _ parts.0 in
      let first : depth (up k) < depth k = is_less (depth (up k)) (depth k) lower.0 in
      let second : depth (jump (up k)) < depth k = is_less (depth (jump (up k))) (depth k) lower.1 in
      let way = onward graph k (up k) (jump (up k)) (climb k) (leap n (up k) (omega arith)) in
      rw (eqb-true (jump k) (jump (jump (up k))) parts.1) (onward graph k (jump (up k)) (jump (jump (up k))) way (leap n (jump (up k)) (omega arith))))
      (either _ _ (both _ _ (sure.sound k (within_or k (length labels) within))).1))
      (λ (past : nat_lt k (length labels) ≡ false). inl (sym (ap (λ l. l.jump) (beyond labels k (beyond_or k (length labels) past)) ∙ no_jump k)))
      (cases_Bool (nat_lt k (length labels)))

  pub up_on : (from at : ℕ) → labelled.is_up graph from at ≡ true → labelled.is_up graph from (label_of labels at).up ≡ true
  up_on from at h = told_up graph from (up at) (onward graph from at (up at) (is_up_from graph from at h) (climb at))

  pub jump_on : (from at : ℕ) → labelled.is_up graph from at ≡ true → labelled.is_up graph from (label_of labels at).jump ≡ true
  jump_on from at h = told_up graph from (jump at) (onward graph from at (jump at) (is_up_from graph from at h) (leap (suc (depth at)) at (omega arith)))

  -- ---- ranges

  abbrev Nested : ℕ → ℕ → Type 0
  Nested k above = ((label_of labels above).low ≤ (label_of labels k).low) × ((label_of labels k).high ≤ (label_of labels above).high)

  one_nested : (e a : ℕ) → is_among (supertypes graph e) a ≡ true → Nested (root e) (root a)
  one_nested e a there =
      let held = each_passes (λ b. labelled.is_nested labels (root e) (root b)) (supertypes graph e) (sure.nested e (is_member graph e a there)) a there in
      let parts = both _ _ held in
      (leb-true _ _ parts.0, leb-true _ _ parts.1)

  nested : (n e a : ℕ) → Reaches graph n e a → Nested (root e) (root a)
  nested zero e a reaches = one_nested e a reaches
  nested (suc n) e a reaches =
      let first = one_nested e reaches.0 reaches.1.0 in
      let rest = nested n reaches.0 a reaches.1.1 in
      (omega arith, omega arith)

  held : (k a : ℕ) → Nested k a → labelled.is_nested labels k a ≡ true
  held k a parts = grind (arith, nat_tests, parts.0, parts.1)

  pub up_nested : (e a : ℕ) → labelled.is_up graph e a ≡ true → labelled.is_nested labels (root e) (root a) ≡ true
  up_nested e a h = ⊎_elim
      (λ (is : e ≡ a). held (root e) (root a) (rw is (omega arith, omega arith)))
      (λ (above : IsAncestor graph e a). held (root e) (root a) (nested above.0 e a above.1))
      (is_up_from graph e a h)

  pub up_between : (e a : ℕ) → e < length graph → a < length graph → labelled.is_up graph (root e) (root a) ≡ true → labelled.is_up graph e a ≡ true
  up_between e a e_within a_within h = told_up graph e a
      (onward graph e (root e) a (rises_to e e_within) (onward graph (root e) (root a) a (is_up_from graph (root e) (root a) h) (falls_to a a_within)))

  pub same_ring : (e a : ℕ) → e < length graph → a < length graph → root e ≡ root a → labelled.is_up graph e a ≡ true
  same_ring e a e_within a_within is = up_between e a e_within a_within (told_up graph (root e) (root a) (inl is))
