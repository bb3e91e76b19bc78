-- What is done to a list is done to another behind so many places.
use Rattle.std.proofs.Common.{◌≡◌, ℕ, ◌+◌, ◌-◌, ◌<◌, ◌≤◌, List, [], ◌∷◌, ◌++◌, length, take, drop, zero, suc, refl, sym, ◌∙◌, ap, arith, append_assoc}
use Rattle.std.specs.List.{insert, remove}
use Rattle.std.proofs.lemmas.List.{drop-append-le, drop-take, drop-drop, length-take-le, length-drop}
use Rattle.std.proofs.Math.ListN.{drop_of_length-le}

module _ {X : Type 0} where
  pub inserted : (gone place : ℕ) (x : X) (xs : List X) → gone + place ≤ length xs → drop gone (insert xs (gone + place) x) ≡ insert (drop gone xs) place x
  inserted gone place x xs within =
      drop-append-le gone (take (gone + place) xs) (x ∷ drop (gone + place) xs) (omega (arith, within, length-take-le (gone + place) xs within))
      ∙ (λ i. drop-take gone place xs i ++ x ∷ sym (drop-drop place gone xs) i)

  pub removed : (gone place : ℕ) (xs : List X) → gone + place < length xs → drop gone (remove xs (gone + place)) ≡ remove (drop gone xs) place
  removed gone place xs within =
      let later : suc (gone + place) ≡ gone + suc place = omega arith in
      drop-append-le gone (take (gone + place) xs) (drop (suc (gone + place)) xs) (omega (arith, within, length-take-le (gone + place) xs (omega (arith, within))))
      ∙ (λ i. drop-take gone place xs i ++ (ap (λ n. drop n xs) later ∙ sym (drop-drop (suc place) gone xs)) i)

  shorter : (n : ℕ) (xs : List X) → take n (take (suc n) xs) ≡ take n xs
  shorter zero xs = refl
  shorter (suc n) [] = refl
  shorter (suc n) (x ∷ xs) = ap (λ (ys : List X). x ∷ ys) (shorter n xs)

  behind_one : (one ys : List X) → length one ≡ 1 → drop 1 (one ++ ys) ≡ ys
  behind_one one ys is =
      drop-append-le 1 one ys (omega (arith, is)) ∙ ap (λ zs. zs ++ ys) (drop_of_length-le one {i = 1} (omega (arith, is)))

  -- a part of a list that is turned by one place, behind its first
  pub turned : (place : ℕ) (xs rotated : List X) → place < length xs
      → rotated ≡ drop (length (take (place + 1) xs) - 1) (take (place + 1) xs) ++ take (length (take (place + 1) xs) - 1) (take (place + 1) xs)
      → drop 1 (rotated ++ drop (place + 1) xs) ≡ remove xs place
  turned place xs rotated within after =
      let all : length (take (place + 1) xs) ≡ place + 1 = length-take-le (place + 1) xs (omega (arith, within)) in
      let count : length (take (place + 1) xs) - 1 ≡ place = omega (arith, all) in
      let next : place + 1 ≡ suc place = omega arith in
      let one : List X = take 1 (drop place xs) in
      let front : take place (take (place + 1) xs) ≡ take place xs = ap (λ n. take place (take n xs)) next ∙ shorter place xs in
      let parts : rotated ≡ one ++ take place xs =
      after ∙ ap (λ n. drop n (take (place + 1) xs) ++ take n (take (place + 1) xs)) count ∙ (λ i. drop-take place 1 xs i ++ front i) in
      let single : length one ≡ 1 = length-take-le 1 (drop place xs) (omega (arith, within, length-drop place xs)) in
      ap (λ ys. drop 1 (ys ++ drop (place + 1) xs)) parts
      ∙ ap (drop 1) (append_assoc one (take place xs) (drop (place + 1) xs))
      ∙ behind_one one (take place xs ++ drop (place + 1) xs) single
      ∙ ap (λ n. take place xs ++ drop n xs) next
