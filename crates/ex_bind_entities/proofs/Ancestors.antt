-- An entity together with its ancestors.
use Rattle.std.proofs.Common.{◌≡◌, ℕ, zero, suc, ◌≤◌, true, false, ◌&&◌, ◌||◌, ◌==◌, nat_lt, List, [], ◌∷◌, filter, length, refl, ◌∙◌, arith}
use Rattle.std.proofs.lemmas.Bool.Decides.{nat_tests}
use Rattle.plain_data.specs.Numbers.{is_among}
use Rattle.graphs.specs.Graphs.{supertypes, reaches, is_ancestor, family}
use Rattle.graphs.proofs.Families as families

pub in_family : (graph : List (List ℕ)) (e k : ℕ) → is_among (family graph e) k ≡ (nat_lt k (length graph) && (k == e || is_ancestor graph e k))
in_family = families.in_family

other : (k e : ℕ) → (k ≡ e → ⊥) → (k == e) ≡ false
other k e h = grind (arith, nat_tests)

-- ---- an entity beyond the graph has no ancestors, and no family

no-supertypes : (graph : List (List ℕ)) (e : ℕ) → length graph ≤ e → supertypes graph e ≡ []
no-supertypes [] e h = refl
no-supertypes (x ∷ xs) zero h = absurd (omega arith)
no-supertypes (x ∷ xs) (suc e) h = no-supertypes xs e (omega arith)

reaches-none : (n : ℕ) (graph : List (List ℕ)) (e a : ℕ) → length graph ≤ e → reaches n graph e a ≡ false
reaches-none zero graph e a h = refl
reaches-none (suc n) graph e a h = rw (no-supertypes graph e h) refl

not-among : (graph : List (List ℕ)) (e k : ℕ) → length graph ≤ e → is_among (family graph e) k ≡ false
not-among graph e k h = in_family graph e k ∙ (elim (nat_lt k (length graph)) as (λ t. nat_lt k (length graph) ≡ t → (t && (k == e || is_ancestor graph e k)) ≡ false) [
  | true ↦ λ is. let ne : k ≡ e → ⊥ = grind (arith, nat_tests) in rw (other k e ne, reaches-none (length graph) graph e k h) refl
  | false ↦ λ is. refl
]) refl

pub none_declared : {A : Type 0} (graph : List (List ℕ)) (e : ℕ) (entity_of : A → ℕ) (xs : List A) → length graph ≤ e → filter (λ x. is_among (family graph e) (entity_of x)) xs ≡ []
none_declared graph e entity_of [] h = refl
none_declared graph e entity_of (x ∷ xs) h = rw (not-among graph e (entity_of x) h) (none_declared graph e entity_of xs h)
