-- Elements that have names, in the order of these: they are the same, each name as often.
use Rattle.std.proofs.Common.{◌≡◌, ℕ, suc, Bool, true, false, ◌||◌, ◌==◌, nat_lt, List, [], ◌∷◌, length, map, ⊎_elim, refl, sym, ◌∙◌, ap, arith}
use Rattle.std.specs.List.{AllByRecursion}
use Rattle.std.proofs.lemmas.Bool.{cases_Bool, or_parts, or_from}
use Rattle.std.proofs.lemmas.Bool.Decides.{nat_tests}
use Rattle.plain_data.specs.Numbers.{is_among}
use Rattle.plain_data.proofs.Disjunctions.{or_turn}
use Rattle.p21_instances.specs.Instances.{placed, in_order, AreOnce}

other_way : (m n : ℕ) → (m == n) ≡ false → (n == m) ≡ false
other_way m n apart = grind (arith, nat_tests)

module _ {X : Type 0} (name : X → ℕ) where
  abbrev pub below : X → X → Bool
  below x y = nat_lt (name x) (name y)

  -- ---- what is put in order stays what it is

  pub all-placed : (P : X → Type 0) (x : X) (ys : List X) → P x → AllByRecursion P ys → AllByRecursion P (placed below x ys)
  all-placed P x [] here all = (here, tt)
  all-placed P x (y ∷ ys) here all = ⊎_elim
      (λ (e : below y x ≡ true). rw e (all.0, all-placed P x ys here all.1))
      (λ (e : below y x ≡ false). rw e (here, all))
      (cases_Bool (below y x))

  pub all-in_order : (P : X → Type 0) (xs : List X) → AllByRecursion P xs → AllByRecursion P (in_order below xs)
  all-in_order P [] all = tt
  all-in_order P (x ∷ xs) all = all-placed P x (in_order below xs) all.0 (all-in_order P xs all.1)

  among_placed : (n : ℕ) (x : X) (ys : List X) → is_among (map name (placed below x ys)) n ≡ is_among (map name (x ∷ ys)) n
  among_placed n x [] = refl
  among_placed n x (y ∷ ys) = ⊎_elim
      (λ (e : below y x ≡ true). rw (e, among_placed n x ys) (or_turn (name y == n) (name x == n) (is_among (map name ys) n)))
      (λ (e : below y x ≡ false). rw e refl)
      (cases_Bool (below y x))

  -- the names are the same
  pub among_in_order : (n : ℕ) (xs : List X) → is_among (map name xs) n ≡ is_among (map name (in_order below xs)) n
  among_in_order n [] = refl
  among_in_order n (x ∷ xs) = ap (λ b. (name x == n) || b) (among_in_order n xs) ∙ sym (among_placed n x (in_order below xs))

  length-placed : (x : X) (ys : List X) → length (placed below x ys) ≡ suc (length ys)
  length-placed x [] = refl
  length-placed x (y ∷ ys) = ⊎_elim
      (λ (e : below y x ≡ true). rw e (ap suc (length-placed x ys)))
      (λ (e : below y x ≡ false). rw e refl)
      (cases_Bool (below y x))

  pub length-in_order : (xs : List X) → length (in_order below xs) ≡ length xs
  length-in_order [] = refl
  length-in_order (x ∷ xs) = length-placed x (in_order below xs) ∙ ap suc (length-in_order xs)

  -- ---- in order, each name once

  once-placed : (x : X) (ys : List X) → is_among (map name ys) (name x) ≡ false → AreOnce name ys → AreOnce name (placed below x ys)
  once-placed x [] new once = (refl, tt)
  once-placed x (y ∷ ys) new once =
      let apart = or_parts (name y == name x) (is_among (map name ys) (name x)) new in
      ⊎_elim
      (λ (e : below y x ≡ true). rw e (among_placed (name y) x ys ∙ or_from (name x == name y) (is_among (map name ys) (name y)) (other_way (name y) (name x) apart.0) once.0, once-placed x ys apart.1 once.1))
      (λ (e : below y x ≡ false). rw e (new, once))
      (cases_Bool (below y x))

  pub once-in_order : (xs : List X) → AreOnce name xs → AreOnce name (in_order below xs)
  once-in_order [] once = tt
  once-in_order (x ∷ xs) once = once-placed x (in_order below xs) (sym (among_in_order (name x) xs) ∙ once.0) (once-in_order xs once.1)
