-- Few rows, and numbers one after another.
use Rattle.std.proofs.Common.{◌≡◌, ℕ, suc, ◌+◌, ◌-◌, ◌<◌, Bool, true, false, ◌==◌, List, [], ◌∷◌, filter, length, if◌then◌else◌, refl, ◌∙◌, ap, arith}
use Rattle.std.specs.List.{list_any}
use Rattle.std.proofs.lemmas.Bool.Decides.{nat_tests}
use Rattle.graphs.specs.Graphs.{numbers_from}
use Rattle.ex_attributes.specs.declared.attribute.Redeclared.{Redeclared}
use Rattle.ex_attributes.specs.Attributes.{Attributes, is_several, latest, named, is_ambiguous_in_some, named_attributes}

same : (e : ℕ) → (e == e) ≡ true
same e = grind (arith, nat_tests)

-- one alone is the latest
pub alone : (schema : Attributes) (all : List Redeclared) → length all ≡ 1 → latest schema all ≡ all
alone schema [] one = absurd (omega arith)
alone schema (r ∷ []) one = rw (same r.entity) refl
alone schema (r ∷ s ∷ others) one = absurd (omega arith)

few : {A : Type 0} (p : A → Bool) (rows : List A) → length rows < 2 → is_several (filter p rows) ≡ false
few p [] less = refl
few p (a ∷ []) less = by (p a)
  where
    by : (b : Bool) → is_several (if b then a ∷ [] else []) ≡ false
    by true = refl
    by false = refl
few p (a ∷ b ∷ rows) less = absurd (omega arith)

-- a name that is declared once is ambiguous nowhere
pub declared_once : (schema : Attributes) (name : List ℕ) → length (named name schema.declared) < 2 → false ≡ is_ambiguous_in_some schema name
declared_once schema name less = nowhere (numbers_from 0 (length schema.supertypes))
  where
    nowhere : (entities : List ℕ) → false ≡ list_any (λ e. is_several (named_attributes schema e name)) entities
    nowhere [] = refl
    nowhere (e ∷ entities) = rw (few _ (named name schema.declared) less) (nowhere entities)

pub none_here : (test : ℕ → Bool) (x : ℕ) (xs : List ℕ) → test x ≡ false → list_any test (x ∷ xs) ≡ list_any test xs
none_here test x xs none = rw none refl

-- the numbers from one on that lies below the end
pub numbers_from_below : (start end : ℕ) → start < end → numbers_from start (end - start) ≡ start ∷ numbers_from (start + 1) (end - (start + 1))
numbers_from_below start end less =
    let n : end - start ≡ suc (end - (start + 1)) = omega arith in
    let next : suc start ≡ start + 1 = omega arith in
    ap (numbers_from start) n ∙ ap (λ k. start ∷ numbers_from k (end - (start + 1))) next
