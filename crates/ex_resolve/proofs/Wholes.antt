-- What is accepted as a whole is accepted in its parts.
use Rattle.std.proofs.Common.{◌≡◌, List, [], ◌∷◌, ◌++◌, map, append_assoc, append-nil, Option, Some, None, Ok, Err, refl, sym, ap, ◌∙◌}
use Rattle.ex_tree.specs.declared.expression.Name.{Name}
use Rattle.ex_named.specs.Outcomes.{Outcome, given, both, and_one, each, each_after}
use Rattle.ex_named.specs.Scopes.{or_undeclared}

pub given_ok : {A B : Type 0} (make : A → B) (o : Outcome A) (b : B) → given make o ≡ Ok b → (a : A) × ((o ≡ Ok a) × (make a ≡ b))
given_ok make (Ok a) b h = (a, (refl, cc))
given_ok make (Err fault) b h = absurd cc

pub both_ok : {A B : Type 0} (a : Outcome A) (b : Outcome B) (p : A × B) → both a b ≡ Ok p → (a ≡ Ok p.0) × (b ≡ Ok p.1)
both_ok (Ok x) (Ok y) p h = let e : (x, y) ≡ p = cc in (ap (λ q. Ok q.0) e, ap (λ q. Ok q.1) e)
both_ok (Ok x) (Err g) p h = absurd cc
both_ok (Err f) (Ok y) p h = absurd cc
both_ok (Err f) (Err g) p h = absurd cc

-- what a name means, if it means something
pub meant : {A : Type 0} (n : Name) (o : Option A) (a : A) → or_undeclared n o ≡ Ok a → o ≡ Some a
meant n None a h = absurd cc
meant n (Some b) a h = cc

-- each of a list gave what stands at its place in the other
abbrev pub Gave : {A B : Type 0} → (A → Outcome B) → List A → List B → Type 0
Gave bind [] [] = Unit {0}
Gave bind [] (y ∷ ys) = ⊥
Gave bind (x ∷ xs) [] = ⊥
Gave bind (x ∷ xs) (y ∷ ys) = (bind x ≡ Ok y) × Gave bind xs ys

-- what is behind those that were found before
abbrev Further : {A B : Type 0} → (A → Outcome B) → Outcome (List B) → List A → List B → Type 0
Further bind found xs all = (some : List _) × ((found ≡ Ok some) × ((rest : List _) × ((all ≡ some ++ rest) × Gave bind xs rest)))

pub one_more : {A B : Type 0} (bind : A → Outcome B) (found : Outcome (List B)) (x : A) (xs : List A) (all : List B)
    → Further bind (and_one found (bind x)) xs all → Further bind found (x ∷ xs) all
one_more bind found x xs all next =
    let pair = given_ok (λ p. p.0 ++ p.1 ∷ []) (both found (bind x)) next.0 next.1.0 in
    let parts = both_ok found (bind x) pair.0 pair.1.0 in (
      pair.0.0,
      (
        parts.0,
        (
          pair.0.1 ∷ next.1.1.0,
          (next.1.1.1.0 ∙ ap (λ l. l ++ next.1.1.0) (sym pair.1.1) ∙ append_assoc pair.0.0 (pair.0.1 ∷ []) next.1.1.0, (parts.1, next.1.1.1.1)),
        ),
      ),
    )

after_ok : {A B : Type 0} (bind : A → Outcome B) (found : Outcome (List B)) (xs : List A) (all : List B) → each_after bind found xs ≡ Ok all → Further bind found xs all
after_ok bind found [] all h = (all, (h, ([], (sym (append-nil all), tt))))
after_ok bind found (x ∷ xs) all h = one_more bind found x xs all (after_ok bind (and_one found (bind x)) xs all h)

pub each_ok : {A B : Type 0} (bind : A → Outcome B) (xs : List A) (all : List B) → each bind xs ≡ Ok all → Gave bind xs all
each_ok bind xs all h =
    let found = after_ok bind (Ok []) xs all h in
    let none : [] ≡ found.0 = cc in
    let same : all ≡ found.1.1.0 = found.1.1.1.0 ∙ ap (λ l. l ++ found.1.1.0) (sym none) in
    rw same found.1.1.1.1

-- what is read of each that was found is read of what it was found for
pub gave_map : {A B C : Type 0} (bind : A → Outcome B) (f : B → C) (g : A → C) → ((x : A) (y : B) → bind x ≡ Ok y → f y ≡ g x)
    → (xs : List A) (ys : List B) → Gave bind xs ys → map f ys ≡ map g xs
gave_map bind f g same [] [] h = refl
gave_map bind f g same [] (y ∷ ys) h = absurd h
gave_map bind f g same (x ∷ xs) [] h = absurd h
gave_map bind f g same (x ∷ xs) (y ∷ ys) h = let e = same x y h.0 in let es = gave_map bind f g same xs ys h.1 in cc
