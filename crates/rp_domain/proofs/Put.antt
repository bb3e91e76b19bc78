-- What was put into rows stands in the rows of its numbers.
use Rattle.std.proofs.Common.{◌≡◌, ℕ, zero, suc, ◌<◌, ◌≤◌, ◌≢◌, ◌==◌, Bool, true, false, List, [], ◌∷◌, ◌++◌, map, filter, length, replicate, if◌then◌else◌, Some, None, slice_get, refl, sym, ◌∙◌, ap, arith, append-nil, append_assoc}
use Rattle.std.proofs.lemmas.List.{get_or-set_same, get_or-set_other, length-set, length-replicate}
use Rattle.std.proofs.lemmas.Bool.Decides.{nat_tests}
use Rattle.std.specs.Option.{unwrap_or}
use Rattle.rp_domain.specs.Rows.{row, put, put_all, of_number}

pub put_all-append : {A : Type 0} (rows : List (List A)) (us ws : List (ℕ × A)) → put_all rows (us ++ ws) ≡ put_all (put_all rows us) ws
put_all-append rows [] ws = refl
put_all-append rows (u ∷ us) ws = put_all-append (put rows u.0 u.1) us ws

abbrev at : {A : Type 0} → ℕ → ℕ × A → Bool
at number p = p.0 == number

length-put_all : {A : Type 0} (rows : List (List A)) (us : List (ℕ × A)) → length (put_all rows us) ≡ length rows
length-put_all rows [] = refl
length-put_all rows (u ∷ us) = length-put_all (put rows u.0 u.1) us ∙ length-set rows u.0 (row rows u.0 ++ u.1 ∷ [])

row-put_same : {A : Type 0} (rows : List (List A)) (number : ℕ) (x : A) → number < length rows → row (put rows number x) number ≡ row rows number ++ x ∷ []
row-put_same rows number x h = get_or-set_same rows number (row rows number ++ x ∷ []) [] h

row-put_other : {A : Type 0} (rows : List (List A)) (other number : ℕ) (x : A) → number ≢ other → row (put rows other x) number ≡ row rows number
row-put_other rows other number x h = get_or-set_other rows other number (row rows other ++ x ∷ []) [] h

-- what is put, and what follows it
row-step : {A : Type 0} (rows : List (List A)) (u : ℕ × A) (us : List (ℕ × A)) (number : ℕ) (t : Bool) → (u.0 == number) ≡ t → number < length rows
    → row (put rows u.0 u.1) number ++ of_number number us ≡ row rows number ++ map (λ (w : ℕ × A). w.1) (if t then u ∷ filter (at number) us else filter (at number) us)
row-step rows u us number true is h =
    let same : u.0 ≡ number = grind (arith, nat_tests, is) in
    ap (λ r. r ++ of_number number us) (rw (sym same) (row-put_same rows u.0 u.1 (rw same h))) ∙ append_assoc (row rows number) (u.1 ∷ []) (of_number number us)
row-step rows u us number false is h =
    let other : number ≢ u.0 = grind (arith, nat_tests, is) in
    ap (λ r. r ++ of_number number us) (row-put_other rows u.0 number u.1 other)

row-all : {A : Type 0} (rows : List (List A)) (us : List (ℕ × A)) (number : ℕ) → number < length rows → row (put_all rows us) number ≡ row rows number ++ of_number number us
row-all rows [] number h = sym (append-nil (row rows number))
row-all rows (u ∷ us) number h =
    row-all (put rows u.0 u.1) us number (rw (length-set rows u.0 (row rows u.0 ++ u.1 ∷ [])) h)
    ∙ row-step rows u us number (u.0 == number) refl h

row-empty : {A : Type 0} (n number : ℕ) → row {A = A} (replicate n []) number ≡ []
row-empty zero number = refl
row-empty (suc n) zero = refl
row-empty (suc n) (suc number) = row-empty n number

-- what a row has in the end
pub rows-are : {A : Type 0} (n : ℕ) (us : List (ℕ × A)) (number : ℕ) → number < n → row (put_all (replicate n []) us) number ≡ of_number number us
rows-are {A = A} n us number h = row-all (replicate n []) us number (rw (length-replicate {A = List A} n []) h) ∙ ap (λ (r : List A). r ++ of_number number us) (row-empty n number)

pub as-many : {A : Type 0} (n : ℕ) (us : List (ℕ × A)) → length (put_all (replicate n []) us) ≡ n
as-many n us = length-put_all (replicate n []) us ∙ length-replicate n []

pub no-rows : {A : Type 0} (us : List (ℕ × A)) → put_all [] us ≡ []
no-rows [] = refl
no-rows (u ∷ us) = no-rows us

-- a row that stands there
pub row-read : {A : Type 0} (rows : List (List A)) (number : ℕ) (r : List A) → Some r ≡ slice_get rows number → (row rows number ≡ r) × (number < length rows)
row-read [] number r is = absurd (cc)
row-read (x ∷ rows) zero r is = (ap (λ o. unwrap_or o r) (sym is), omega arith)
row-read (x ∷ rows) (suc number) r is = let rest = row-read rows number r is in (rest.0, let h = rest.1 in omega (arith, h))

pub none-stands : {A : Type 0} (rows : List (List A)) (number : ℕ) → None ≡ slice_get rows number → length rows ≤ number
none-stands [] number is = omega arith
none-stands (x ∷ rows) zero is = absurd (cc)
none-stands (x ∷ rows) (suc number) is = let h = none-stands rows number is in omega (arith, h)
