-- Lists that loops go along, and numbers in order, one at a time.
use Rattle.std.proofs.Common.{◌≡◌, ℕ, zero, suc, ◌+◌, ◌-◌, ◌<◌, ◌≤◌, List, [], ◌∷◌, length, drop, get_or, Some, None, slice_get, drop-cons, add-one, refl, sym, ap, ◌∙◌, arith}
use Rattle.std.specs.List.{range_with_len}

pub drop-read : {A : Type 0} (xs : List A) (i : ℕ) (x : A) → i < length xs → x ≡ get_or xs i x → drop i xs ≡ x ∷ drop (i + 1) xs
drop-read xs i x h is = rw (add-one) (drop-cons xs i x h ∙ ap (λ y. y ∷ drop (suc i) xs) (sym is))

pub drop-got : {A : Type 0} (xs : List A) (i : ℕ) (x : A) → slice_get xs i ≡ Some x → drop i xs ≡ x ∷ drop (i + 1) xs
drop-got [] i x h = absurd (cc)
drop-got (y ∷ xs) zero x h = let same : y ≡ x = cc in ap (λ z. z ∷ xs) same
drop-got (y ∷ xs) (suc i) x h = let e : suc i + 1 ≡ suc (i + 1) = omega arith in rw e (drop-got xs i x h)

pub drop-none : {A : Type 0} (xs : List A) (i : ℕ) → slice_get xs i ≡ None → drop i xs ≡ []
drop-none [] zero h = refl
drop-none [] (suc i) h = refl
drop-none (y ∷ xs) zero h = absurd (cc)
drop-none (y ∷ xs) (suc i) h = drop-none xs i h

pub none-behind : {A : Type 0} (xs : List A) (i : ℕ) → slice_get xs i ≡ None → slice_get xs (i + 1) ≡ None
none-behind [] i h = refl
none-behind (y ∷ xs) zero h = absurd (cc)
none-behind (y ∷ xs) (suc i) h = let e : suc i + 1 ≡ suc (i + 1) = omega arith in rw e (none-behind xs i h)

pub drop-past : {A : Type 0} (xs : List A) (i : ℕ) → length xs ≤ i → drop i xs ≡ []
drop-past [] zero h = refl
drop-past [] (suc i) h = refl
drop-past (y ∷ xs) zero h = absurd (omega (arith, h))
drop-past (y ∷ xs) (suc i) h = drop-past xs i (omega (arith, h))

pub numbers-step : (at count : ℕ) → at < count → range_with_len at (count - at) ≡ at ∷ range_with_len (at + 1) (count - (at + 1))
numbers-step at count h =
    let e : count - at ≡ suc (count - (at + 1)) = omega arith in
    ap (range_with_len at) e

pub numbers-end : (at count : ℕ) → count ≤ at → range_with_len at (count - at) ≡ []
numbers-end at count h =
    let e : count - at ≡ 0 = omega arith in
    ap (range_with_len at) e
