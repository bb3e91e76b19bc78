-- The items of a list, one after another.
use Rattle.std.proofs.Common.{◌≡◌, ◌<◌, ◌≤◌, ◌+◌, ℕ, List, [], ◌∷◌, ◌++◌, drop, get_or, length, Option, Some, None, option_map, refl, sym, ap, ◌∙◌, append_assoc, append-nil, add-one}
use Rattle.std.proofs.Math.Seq.{drop-cons}
use Rattle.std.proofs.lemmas.List.{drop_all}
use Rattle.serde_json.specs.Data.{Data}
use Rattle.serde_json.specs.View.{view, items_view}
use Rattle.serde_json.specs.declared.value.Value.{Value}
use Rattle.rp_config.specs.Configuration.{each}

drop_one : (vs : List Value) (i : ℕ) (v : Value) → i < length vs → v ≡ get_or vs i v → drop i vs ≡ v ∷ drop (i + 1) vs
drop_one vs i v within is = drop-cons vs i v within ∙ rw (add-one, ← is) refl

nothing_before : (o : Option (List (List ℕ))) → o ≡ option_map (λ more. [] ++ more) o
nothing_before None = refl
nothing_before (Some xs) = refl

one_before : (found : List (List ℕ)) (x : List ℕ) (o : Option (List (List ℕ))) → option_map (λ more. found ++ more) (option_map (λ xs. x ∷ xs) o) ≡ option_map (λ more. (found ++ x ∷ []) ++ more) o
one_before found x None = refl
one_before found x (Some xs) = ap Some (sym (append_assoc found (x ∷ []) xs))

module _ (said : Data → Option (List ℕ)) where
  -- what the values before i said stands in front of what the others say
  abbrev pub Found : List Value → ℕ → List (List ℕ) → Type 0
  Found vs i found = each said (items_view vs) ≡ option_map (λ more. found ++ more) (each said (items_view (drop i vs)))

  pub at_first : (vs : List Value) → Found vs 0 []
  at_first vs = nothing_before (each said (items_view vs))

  -- the value at i
  module _ (vs : List Value) (i : ℕ) (v : Value) (found : List (List ℕ)) (within : i < length vs) (is : v ≡ get_or vs i v) (before : Found vs i found) where
    pub one_more : (x : List ℕ) → Some x ≡ said (view v) → Found vs (i + 1) (found ++ x ∷ [])
    one_more x e = before ∙ rw (drop_one vs i v within is, ← e) (one_before found x _)

    pub not_said : None ≡ said (view v) → each said (items_view vs) ≡ None
    not_said e = before ∙ rw (drop_one vs i v within is, ← e) refl

  pub all_found : (vs : List Value) (i : ℕ) (found : List (List ℕ)) → length vs ≤ i → Found vs i found → each said (items_view vs) ≡ Some found
  all_found vs i found end h = h ∙ rw (drop_all i vs end) (ap Some (append-nil found))
