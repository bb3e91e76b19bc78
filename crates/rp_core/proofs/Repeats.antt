-- Texts that stand twice.
use Rattle.std.proofs.Common.{◌≡◌, ℕ, zero, suc, ◌<◌, Bool, true, false, ◌||◌, cond, List, [], ◌∷◌, ◌++◌, length, take, get_or, refl, arith}
use Rattle.std.specs.Prelude.{not}
use Rattle.std.specs.Str.{bytes_eq}
use Rattle.std.specs.Cmp.{both_ways}
use Rattle.std.proofs.lemmas.List.Folds.{list_any_at}
use Rattle.std.proofs.lemmas.Slice.Eq.{bytes_eq-Decides}
use Rattle.std.proofs.Common.{sym}
use Rattle.sorted_tables.proofs.Tables.{list_any-append}
use Rattle.rp_plain.specs.Meaning.{has_text}
use Rattle.rp_plain.specs.Opening.{has_twice}

pub not_false : (t : Bool) → not t ≡ false → t ≡ true
not_false true h = refl
not_false false h = cc

pub not_true : (t : Bool) → not t ≡ true → t ≡ false
not_true true h = cc
not_true false h = refl

pub bytes_eq_swap : (xs ys : List ℕ) → bytes_eq xs ys ≡ bytes_eq ys xs
bytes_eq_swap xs ys =
    both_ways (bytes_eq xs ys) (bytes_eq ys xs) (λ h. (bytes_eq-Decides ys xs).1 (sym ((bytes_eq-Decides xs ys).0 h))) (λ h. (bytes_eq-Decides xs ys).1 (sym ((bytes_eq-Decides ys xs).0 h)))

-- one more text that is not among them
pub has_twice_more : (x : List ℕ) (xs : List (List ℕ)) → has_text xs x ≡ false → has_twice xs ≡ false → has_twice (xs ++ x ∷ []) ≡ false
has_twice_more x [] h g = refl
has_twice_more x (y ∷ ys) h g = grind (arith, bytes_eq_swap x y, list_any-append (bytes_eq y) ys (x ∷ []), has_twice_more x ys)

-- a text that is among those before it
pub has_twice_found : (xs : List (List ℕ)) (i : ℕ) (d : List ℕ) → i < length xs → has_text (take i xs) (get_or xs i d) ≡ true → has_twice xs ≡ true
has_twice_found [] i d h among = absurd (omega arith)
has_twice_found (x ∷ xs) zero d h among = cc
has_twice_found (x ∷ xs) (suc i) d h among =
    let within : i < length xs = omega arith in
    grind (arith, bytes_eq_swap (get_or xs i d) x, list_any_at (bytes_eq x) xs i d within, has_twice_found xs i d within)

pub either_way : (s t u : Bool) → s ≡ u → cond s true t ≡ (t || u)
either_way true true u e = refl
either_way true false true e = refl
either_way true false false e = cc
either_way false true u e = refl
either_way false false true e = cc
either_way false false false e = refl
