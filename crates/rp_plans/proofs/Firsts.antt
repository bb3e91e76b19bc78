-- The first test that holds.
use Rattle.std.proofs.Common.{◌≡◌, ℕ, zero, suc, ◌<◌, true, false, List, [], ◌∷◌, ◌++◌, length, take, get_or, Option, Some, None, is_some, refl, sym, ◌∙◌, arith}
use Rattle.rp_plain.specs.Meaning.{first_some}

pub first_none : {A : Type 0} (xs : List (Option A)) (i : ℕ) (d : Option A) → i < length xs → first_some (take i xs) ≡ None → get_or xs i d ≡ None → first_some (take (suc i) xs) ≡ None
first_none [] i d within before here = absurd (omega arith)
first_none (x ∷ xs) zero d within before here = rw here refl
first_none (None ∷ xs) (suc i) d within before here = first_none xs i d (omega arith) before here
first_none (Some x ∷ xs) (suc i) d within before here = cc

pub first_found : {A : Type 0} (xs : List (Option A)) (i : ℕ) (d : Option A) (x : A) → i < length xs → first_some (take i xs) ≡ None → get_or xs i d ≡ Some x → first_some xs ≡ Some x
first_found [] i d y within before here = absurd (omega arith)
first_found (x ∷ xs) zero d y within before here = rw here refl
first_found (None ∷ xs) (suc i) d y within before here = first_found xs i d y (omega arith) before here
first_found (Some x ∷ xs) (suc i) d y within before here = cc

pub some_there : {A : Type 0} (o : Option A) → is_some o ≡ true → (xs : List (Option A)) (i : ℕ) → i < length xs → first_some (take i xs) ≡ None → o ≡ get_or xs i None → first_some xs ≡ o
some_there None h xs i within before is = cc
some_there (Some x) h xs i within before is = first_found xs i None x within before (sym is)

pub none_there : {A : Type 0} (o : Option A) → is_some o ≡ false → o ≡ None
none_there None h = refl
none_there (Some x) h = cc

-- ---- the first of some tests, and then of others

pub first_front : {A : Type 0} (xs ys : List (Option A)) (x : A) → first_some xs ≡ Some x → first_some (xs ++ ys) ≡ Some x
first_front [] ys x found = cc
first_front (None ∷ xs) ys x found = first_front xs ys x found
first_front (Some y ∷ xs) ys x found = found

pub first_behind : {A : Type 0} (xs ys : List (Option A)) → first_some xs ≡ None → first_some (xs ++ ys) ≡ first_some ys
first_behind [] ys none = refl
first_behind (None ∷ xs) ys none = first_behind xs ys none
first_behind (Some y ∷ xs) ys none = cc

pub first_alone : {A : Type 0} (o : Option A) → first_some (o ∷ []) ≡ o
first_alone None = refl
first_alone (Some x) = refl

-- the later tests by one, once none of those before holds
pub first_later : {A : Type 0} (xs ys : List (Option A)) → first_some xs ≡ None → first_some (first_some ys ∷ []) ≡ first_some (xs ++ ys)
first_later xs ys none = first_alone (first_some ys) ∙ sym (first_behind xs ys none)

-- ---- where none holds

pub none_here : {A : Type 0} (o : Option A) (xs : List (Option A)) → first_some (o ∷ xs) ≡ None → o ≡ None
none_here None xs none = refl
none_here (Some x) xs none = cc

pub none_behind : {A : Type 0} (o : Option A) (xs : List (Option A)) → first_some (o ∷ xs) ≡ None → first_some xs ≡ None
none_behind None xs none = none
none_behind (Some x) xs none = cc

pub none_last : {A : Type 0} (xs : List (Option A)) (o : Option A) → first_some (xs ++ o ∷ []) ≡ None → o ≡ None
none_last [] o none = none_here o [] none
none_last (x ∷ xs) o none = none_last xs o (none_behind x (xs ++ o ∷ []) none)
