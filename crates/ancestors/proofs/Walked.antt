-- What is told of a walk down is told of who stands above whom.
use Rattle.std.proofs.Common.{◌≡◌, ℕ, ◌<◌, Bool, true, ◌==◌, List, length, Option, Some, None, [], MatchOption, ◌⊎◌, inl, inr, ⊎_elim, refl, sym, ◌∙◌, arith}
use Rattle.std.proofs.lemmas.Bool.Decides.{nat_tests}
use Rattle.plain_data.specs.Numbers.{is_among}
use Rattle.graphs.specs.Graphs.{supertypes, IsAncestor, is_ancestor}
use Rattle.graphs.proofs.Bounded.{is_ancestor_exact, answer_is}
use Rattle.graphs.proofs.Certain.{through}
use Rattle.graphs.proofs.Search.{Search, search_exact}
use Rattle.graphs.proofs.Turned.{under_is}
use Rattle.ancestors.specs.Kept.{IsTurned}
use Rattle.ancestors.specs.Labels.{is_up}
use Rattle.ancestors.proofs.Ranges.{told_up, is_up_from, onward}

module _ (graph below : List (List ℕ)) (turned : IsTurned graph below) where
  pub above_is : (d e : ℕ) → d < length graph → is_ancestor below d e ≡ is_ancestor graph e d
  above_is d e within = under_is graph below turned d e within (is_ancestor below d e) (is_ancestor_exact below d e)

  up_is : (d e : ℕ) → d < length graph → is_up graph e d ≡ is_up below d e
  up_is d e within =
      let same = above_is d e within in
      let turn : (e == d) ≡ (d == e) = grind (arith, nat_tests) in
      rw (same, turn) refl

  pub told_down : (d e : ℕ) → d < length graph → (o : Option Bool) → MatchOption o (Unit {0}) (λ told. told ≡ is_up graph e d) → MatchOption o (Unit {0}) (λ told. told ≡ is_up below d e)
  told_down d e within None told = tt
  told_down d e within (Some b) told = told ∙ up_is d e within

-- those by which a walk may come to a member
abbrev pub comes : List (List ℕ) → ℕ → ℕ → Bool
comes graph to a = is_up graph a to

module _ (graph : List (List ℕ)) (from to : ℕ) where
  comes_back : (m a : ℕ) → is_among (supertypes graph m) a ≡ true → comes graph to a ≡ true → comes graph to m ≡ true
  comes_back m a step h = told_up graph m to (onward graph m a to (inr (0, step)) (is_up_from graph a to h))

  comes_to : comes graph to to ≡ true
  comes_to = told_up graph to to (inl refl)

  pub walk_over : (found waiting : List ℕ) → waiting ≡ [] → Search graph from (comes graph to) found waiting → is_among found to ≡ is_ancestor graph from to
  walk_over found waiting none search = answer_is graph from to (is_among found to) (search_exact graph (comes graph to) comes_back from found waiting found none refl search to comes_to)

  -- a walk came to one below it, or to it
  pub walk_told : (next : ℕ) → IsAncestor graph from next → comes graph to next ≡ true → true ≡ is_ancestor graph from to
  walk_told next above h = sym ((is_ancestor_exact graph from to).1 (on (is_up_from graph next to h)))
    where
      on : (next ≡ to) ⊎ IsAncestor graph next to → IsAncestor graph from to
      on up = ⊎_elim (λ (is : next ≡ to). rw (← is) above) (λ (further : IsAncestor graph next to). through graph above.0 from next to above.1 further) up
