-- A part of a list that lies in two pieces.
use Rattle.std.proofs.Common.{◌≡◌, ℕ, zero, suc, ◌-◌, ◌≤◌, List, [], ◌∷◌, ◌++◌, length, take, drop, refl, ◌∙◌, ap, arith}
use Rattle.std.specs.Prelude.{min}

none_left : {X : Type 0} (n : ℕ) → take {A = X} n [] ≡ []
none_left zero = refl
none_left (suc n) = refl

within : {X : Type 0} (xs : List X) (a b : ℕ) → a ≤ b → take (b - a) (drop a xs) ≡ drop a (take b xs)
within xs zero b le = let all : b - 0 ≡ b = omega arith in ap (λ n. take n xs) all
within xs (suc a) zero le = absurd (omega arith)
within [] (suc a) (suc b) le = none_left (suc b - suc a)
within (x ∷ xs) (suc a) (suc b) le =
    let same : suc b - suc a ≡ b - a = omega arith in
    ap (λ n. take n (drop a xs)) same ∙ within xs a b (omega arith)

-- the pieces of xs and ys, counted from the beginning of each
pub in_two : {X : Type 0} (xs ys : List X) (a b : ℕ) → a ≤ b
    → take (min b (length xs) - min a (length xs)) (drop (min a (length xs)) xs) ++ take ((b - length xs) - (a - length xs)) (drop (a - length xs) ys) ≡ drop a (take b (xs ++ ys))
in_two {X = X} [] ys a b le =
    let none : min b 0 - min a 0 ≡ 0 = omega arith in
    let front : min a 0 ≡ 0 = omega arith in
    let all : (b - 0) - (a - 0) ≡ b - a = omega arith in
    let first : a - 0 ≡ a = omega arith in
    (λ i. take {A = X} (none i) (drop (front i) []) ++ take (all i) (drop (first i) ys)) ∙ within ys a b le
in_two (x ∷ xs) ys zero zero le =
    let n = length xs in
    let none : min 0 (suc n) - min 0 (suc n) ≡ 0 = omega arith in
    let no_more : (0 - suc n) - (0 - suc n) ≡ 0 = omega arith in
    (λ i. take (none i) (drop (min 0 (suc n)) (x ∷ xs)) ++ take (no_more i) (drop (0 - suc n) ys))
in_two (x ∷ xs) ys zero (suc b) le =
    let n = length xs in
    let many : min (suc b) (suc n) - min 0 (suc n) ≡ suc (min b n - min 0 n) = omega arith in
    let from : min 0 (suc n) ≡ 0 = omega arith in
    let more : (suc b - suc n) - (0 - suc n) ≡ (b - n) - (0 - n) = omega arith in
    let past : 0 - suc n ≡ 0 - n = omega arith in
    let begin : 0 ≡ min 0 n = omega arith in
    (λ i. take (many i) (drop (from i) (x ∷ xs)) ++ take (more i) (drop (past i) ys))
    ∙ ap (λ zs. x ∷ zs) ((λ i. take (min b n - min 0 n) (drop (begin i) xs) ++ take ((b - n) - (0 - n)) (drop (0 - n) ys)) ∙ in_two xs ys zero b (omega arith))
in_two (x ∷ xs) ys (suc a) zero le = absurd (omega arith)
in_two (x ∷ xs) ys (suc a) (suc b) le =
    let n = length xs in
    let many : min (suc b) (suc n) - min (suc a) (suc n) ≡ min b n - min a n = omega arith in
    let from : min (suc a) (suc n) ≡ suc (min a n) = omega arith in
    let more : (suc b - suc n) - (suc a - suc n) ≡ (b - n) - (a - n) = omega arith in
    let past : suc a - suc n ≡ a - n = omega arith in
    (λ i. take (many i) (drop (from i) (x ∷ xs)) ++ take (more i) (drop (past i) ys)) ∙ in_two xs ys a b (omega arith)
