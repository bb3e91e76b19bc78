-- Lists that are gone through together.
use Rattle.std.proofs.Common.{◌≡◌, ℕ, zero, suc, ◌+◌, ◌<◌, Bool, ◌&&◌, if◌then◌else◌, filter, List, [], ◌∷◌, length, drop, get_or, refl, ◌∙◌, ap, arith}
use Rattle.p21_values.specs.Deciding.{both, at}

both_next : (xs ys : List Bool) (i : ℕ) → i < length xs → length xs ≡ length ys
    → both (drop i xs) (drop i ys) ≡ (at xs i && at ys i) ∷ both (drop (suc i) xs) (drop (suc i) ys)
both_next [] ys i within e = let no : ⊥ = omega arith in absurd no
both_next (x ∷ xs) [] i within e = let no : ⊥ = omega arith in absurd no
both_next (x ∷ xs) (y ∷ ys) zero within e = refl
both_next (x ∷ xs) (y ∷ ys) (suc i) within e =
    let less : i < length xs = omega arith in
    let same : length xs ≡ length ys = omega arith in
    both_next xs ys i less same

pub both_turn : (xs ys : List Bool) (i : ℕ) → i < length xs → length xs ≡ length ys
    → both (drop i xs) (drop i ys) ≡ (at xs i && at ys i) ∷ both (drop (i + 1) xs) (drop (i + 1) ys)
both_turn xs ys i within e =
    let next : suc i ≡ i + 1 = omega arith in
    both_next xs ys i within e ∙ ap (λ j. (at xs i && at ys i) ∷ both (drop j xs) (drop j ys)) next

pub filter_turn : {A : Type 0} (p : A → Bool) (xs : List A) (i : ℕ) (x d : A) → i < length xs → x ≡ get_or xs i d
    → filter p (drop i xs) ≡ (if p x then x ∷ filter p (drop (i + 1) xs) else filter p (drop (i + 1) xs))
filter_turn p [] i x d within is = let no : ⊥ = omega arith in absurd no
filter_turn p (y ∷ xs) zero x d within is = let same : y ≡ x = cc in rw same refl
filter_turn p (y ∷ xs) (suc i) x d within is =
    let less : i < length xs = omega arith in
    let same : x ≡ get_or xs i d = is in
    let next : suc i + 1 ≡ suc (i + 1) = omega arith in
    rw next (filter_turn p xs i x d less same)
