-- Elements in order of a number: they are in order already when they are put in order again.
use Rattle.std.proofs.Common.{◌≡◌, ℕ, Bool, true, false, ◌||◌, ◌==◌, nat_lt, List, [], ◌∷◌, ⊎_elim, refl, ◌∙◌, ap, arith}
use Rattle.std.proofs.lemmas.Bool.{cases_Bool}
use Rattle.std.proofs.lemmas.Bool.Decides.{nat_tests}
use Rattle.std.specs.List.{AllByRecursion, list_any}
use Rattle.plain_data.proofs.Disjunctions.{or_turn}
use Rattle.p21_instances.specs.Instances.{placed, in_order}

pub neither : (a b : Bool) → (a || b) ≡ false → (a ≡ false) × (b ≡ false)
neither true b e = cc
neither false b e = (refl, e)

-- no other has the number of one of them
abbrev pub OnceBy : {X : Type 0} → (X → ℕ) → List X → Type 0
OnceBy f [] = Unit {0}
OnceBy f (x ∷ xs) = (list_any (λ y. f y == f x) xs ≡ false) × OnceBy f xs

module _ {X : Type 0} (n : X → ℕ) where
  abbrev below : X → X → Bool
  below x y = nat_lt (n x) (n y)

  -- the first of them is not below this one
  abbrev IsFront : X → List X → Type 0
  IsFront x [] = Unit {0}
  IsFront x (y ∷ ys) = below y x ≡ false

  abbrev pub Rises : List X → Type 0
  Rises [] = Unit {0}
  Rises (x ∷ xs) = IsFront x xs × Rises xs

  at_front : (x : X) (ys : List X) → IsFront x ys → placed below x ys ≡ x ∷ ys
  at_front x [] e = refl
  at_front x (y ∷ ys) e = rw e refl

  not_back : (x y : X) → below y x ≡ true → below x y ≡ false
  not_back x y e = grind (arith, nat_tests)

  front_placed : (x y : X) (ys : List X) → below y x ≡ true → IsFront y ys → IsFront y (placed below x ys)
  front_placed x y [] less front = not_back x y less
  front_placed x y (z ∷ zs) less front = ⊎_elim
      (λ (e : below z x ≡ true). rw e front)
      (λ (e : below z x ≡ false). rw e (not_back x y less))
      (cases_Bool (below z x))

  rises_placed : (x : X) (ys : List X) → Rises ys → Rises (placed below x ys)
  rises_placed x [] up = (tt, tt)
  rises_placed x (y ∷ ys) up = ⊎_elim
      (λ (e : below y x ≡ true). rw e (front_placed x y ys e up.0, rises_placed x ys up.1))
      (λ (e : below y x ≡ false). rw e (e, up))
      (cases_Bool (below y x))

  rises_in_order : (xs : List X) → Rises (in_order below xs)
  rises_in_order [] = tt
  rises_in_order (x ∷ xs) = rises_placed x (in_order below xs) (rises_in_order xs)

  pub stays : (xs : List X) → Rises xs → in_order below xs ≡ xs
  stays [] up = refl
  stays (x ∷ xs) up = ap (placed below x) (stays xs up.1) ∙ at_front x xs up.0

  pub order_again : (xs : List X) → in_order below (in_order below xs) ≡ in_order below xs
  order_again xs = stays (in_order below xs) (rises_in_order xs)

  -- ---- they are the same elements

  any_placed : (p : X → Bool) (x : X) (ys : List X) → list_any p (placed below x ys) ≡ (p x || list_any p ys)
  any_placed p x [] = refl
  any_placed p x (y ∷ ys) = ⊎_elim
      (λ (e : below y x ≡ true). rw (e, any_placed p x ys) (or_turn (p y) (p x) (list_any p ys)))
      (λ (e : below y x ≡ false). rw e refl)
      (cases_Bool (below y x))

  pub any_in_order : (p : X → Bool) (xs : List X) → list_any p (in_order below xs) ≡ list_any p xs
  any_in_order p [] = refl
  any_in_order p (x ∷ xs) = any_placed p x (in_order below xs) ∙ ap (λ b. p x || b) (any_in_order p xs)

  all_placed : (P : X → Type 0) (x : X) (ys : List X) → P x → AllByRecursion P ys → AllByRecursion P (placed below x ys)
  all_placed P x [] h all = (h, tt)
  all_placed P x (y ∷ ys) h all = ⊎_elim
      (λ (e : below y x ≡ true). rw e (all.0, all_placed P x ys h all.1))
      (λ (e : below y x ≡ false). rw e (h, all))
      (cases_Bool (below y x))

  pub all_in_order : (P : X → Type 0) (xs : List X) → AllByRecursion P xs → AllByRecursion P (in_order below xs)
  all_in_order P [] all = tt
  all_in_order P (x ∷ xs) all = all_placed P x (in_order below xs) all.0 (all_in_order P xs all.1)

  turned : (f : X → ℕ) (x y : X) → (f y == f x) ≡ false → (f x == f y) ≡ false
  turned f x y e = grind (arith, nat_tests)

  once_placed : (f : X → ℕ) (x : X) (ys : List X) → list_any (λ y. f y == f x) ys ≡ false → OnceBy f ys → OnceBy f (placed below x ys)
  once_placed f x [] new once = (refl, tt)
  once_placed f x (y ∷ ys) new once =
      let apart = neither (f y == f x) (list_any (λ y. f y == f x) ys) new in
      ⊎_elim
      (λ (e : below y x ≡ true). rw e (any_placed (λ z. f z == f y) x ys ∙ rw (turned f x y apart.0) once.0, once_placed f x ys apart.1 once.1))
      (λ (e : below y x ≡ false). rw e (new, once))
      (cases_Bool (below y x))

  pub once_in_order : (f : X → ℕ) (xs : List X) → OnceBy f xs → OnceBy f (in_order below xs)
  once_in_order f [] once = tt
  once_in_order f (x ∷ xs) once = once_placed f x (in_order below xs) (any_in_order (λ y. f y == f x) xs ∙ once.0) (once_in_order f xs once.1)
