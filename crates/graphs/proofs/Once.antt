-- Each number once, at its first place, as a list grows.
use Rattle.std.proofs.Common.{◌≡◌, ℕ, Bool, true, false, not, ◌||◌, ◌==◌, List, [], ◌∷◌, ◌++◌, append_assoc, append-nil, ⊎_elim, refl, sym, ◌∙◌, ap}
use Rattle.std.proofs.lemmas.Bool.{cases_Bool, eq-eqb, eqb-true}
use Rattle.std.proofs.lemmas.List.Elements.{filter-append}
use Rattle.std.specs.Prelude.{filter}
use Rattle.plain_data.specs.Numbers.{is_among}
use Rattle.graphs.specs.Graphs.{each_once}
use Rattle.graphs.proofs.Sets.{in_first, or_right}

apart : (a b : Bool) → (a || b) ≡ false → (a ≡ false) × (b ≡ false)
apart true b e = cc
apart false b e = (refl, e)

turned : (x y : ℕ) → (y == x) ≡ false → (x == y) ≡ false
turned x y e = ⊎_elim
    (λ (same : (x == y) ≡ true). let back = eq-eqb y x (sym (eqb-true x y same)) in cc)
    (λ (other : (x == y) ≡ false). other)
    (cases_Bool (x == y))

-- a number that isn't there comes last
pub once_new : (xs : List ℕ) (x : ℕ) → is_among xs x ≡ false → each_once (xs ++ x ∷ []) ≡ each_once xs ++ x ∷ []
once_new [] x e = refl
once_new (y ∷ ys) x e =
    let both = apart (y == x) (is_among ys x) e in
    let other : (x == y) ≡ false = turned x y both.0 in
    rw (once_new ys x both.1, filter-append (λ z. not (z == y)) (each_once ys) (x ∷ []), other) refl

-- a number that is there changes nothing
pub once_known : (xs : List ℕ) (x : ℕ) → is_among xs x ≡ true → each_once (xs ++ x ∷ []) ≡ each_once xs
once_known [] x e = cc
once_known (y ∷ ys) x e = ⊎_elim
    (λ (there : is_among ys x ≡ true). rw (once_known ys x there) refl)
    (λ (new : is_among ys x ≡ false).
    let is : y ≡ x = eqb-true y x (⊎_elim
    (λ (h : (y == x) ≡ true). h)
    (λ (h : (y == x) ≡ false). let none : ((y == x) || is_among ys x) ≡ false = rw (h, new) refl in cc)
    (cases_Bool (y == x))) in
    let gone : (x == y) ≡ true = eq-eqb x y (sym is) in
    rw (once_new ys x new, filter-append (λ z. not (z == y)) (each_once ys) (x ∷ []), gone)
    (ap (λ l. y ∷ l) (append-nil (filter (λ z. not (z == y)) (each_once ys)))))
    (cases_Bool (is_among ys x))

-- nor do many
pub once_within : (xs ys : List ℕ) → ((a : ℕ) → is_among ys a ≡ true → is_among xs a ≡ true) → each_once (xs ++ ys) ≡ each_once xs
once_within xs [] all = ap each_once (append-nil xs)
once_within xs (y ∷ ys) all =
    let here : is_among xs y ≡ true = all y (rw (eq-eqb y y refl) refl) in
    ap each_once (sym (append_assoc xs (y ∷ []) ys))
    ∙ once_within (xs ++ y ∷ []) ys (λ a h. in_first xs (y ∷ []) a (all a (or_right (y == a) (is_among ys a) h)))
    ∙ once_known xs y here
