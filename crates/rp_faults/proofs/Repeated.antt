-- What stands twice in a list.
use Rattle.std.proofs.Common.{◌≡◌, ℕ, suc, ◌+◌, ◌<◌, ◌≤◌, Bool, true, false, List, [], ◌∷◌, ◌++◌, map, take, drop, length, get_or, sym, ap, ◌∙◌, arith, if◌then◌else◌, add-one, drop-cons}
use Rattle.std.proofs.Math.Seq.{take-suc}
use Rattle.std.proofs.lemmas.Bool.Decides.{nat_tests}
use Rattle.std.proofs.lemmas.List.{length-append, length-drop, length-map, length-take}
use Rattle.std.specs.List.{list_any}
use Rattle.rp_meaning.specs.Faults.{has_twice}
use Rattle.rp_meaning.specs.Reading.{present}
use Rattle.rp_operations.specs.Operations.{is_same, set_union}
use Rattle.rp_value.specs.declared.value.Value.{Value}

pub drop-read : {A : Type 0} (xs : List A) (i : ℕ) (x : A) → i < length xs → x ≡ get_or xs i x → drop i xs ≡ x ∷ drop (i + 1) xs
drop-read xs i x h is = rw (add-one) (drop-cons xs i x h ∙ ap (λ y. y ∷ drop (suc i) xs) (sym is))

at-most-by : (xs ys : List Value) (y : Value) (b : Bool) → ((zs : List Value) → length (set_union zs ys) ≤ length zs + length ys)
    → length (set_union (if b then xs else xs ++ y ∷ []) ys) ≤ length xs + suc (length ys)
at-most-by xs ys y true less = omega (arith, less xs)
at-most-by xs ys y false less = omega (arith, less (xs ++ y ∷ []), length-append xs (y ∷ []))

-- a SET of elements has no more
pub at-most : (ys xs : List Value) → length (set_union xs ys) ≤ length xs + length ys
at-most [] xs = omega arith
at-most (y ∷ ys) xs = at-most-by xs ys y (list_any (is_same y) xs) (at-most ys)

pub take-read : {A : Type 0} (xs : List A) (i : ℕ) (x : A) → i < length xs → x ≡ get_or xs i x → take (i + 1) xs ≡ take i xs ++ x ∷ []
take-read xs i x h is = rw (add-one) (take-suc xs i x h ∙ ap (λ y. take i xs ++ y ∷ []) (sym is))

-- where one is among those before it, fewer
pub twice : (items : List Value) (i : ℕ) (x : Value) → i < length items → x ≡ get_or items i x → set_union (take i items) (drop i items) ≡ set_union [] items → list_any (is_same x) (take i items) ≡ true
    → true ≡ has_twice items
twice items i x h is whole among =
    let rest = drop (i + 1) items in
    let e : set_union (take i items) rest ≡ set_union [] items =
    sym (ap (λ (b : Bool). set_union (if b then take i items else take i items ++ x ∷ []) rest) among) ∙ ap (set_union (take i items)) (sym (drop-read items i x h is)) ∙ whole in
    let few : length (set_union (take i items) rest) ≤ length (take i items) + length rest = at-most rest (take i items) in
    let these : length (take i items) ≤ i = omega (arith, length-take i items) in
    let those : length rest + (i + 1) ≤ length items = omega (arith, length-drop (i + 1) items) in
    let fewer : length (set_union [] items) < length items = omega (arith, ap length e) in
    sym (grind (arith, nat_tests, fewer))

pub once : (items : List Value) (i : ℕ) (x : Value) → i < length items → x ≡ get_or items i x → set_union (take i items) (drop i items) ≡ set_union [] items → list_any (is_same x) (take i items) ≡ false
    → set_union (take i items ++ x ∷ []) (drop (i + 1) items) ≡ set_union [] items
once items i x h is whole among =
    sym (ap (λ (b : Bool). set_union (if b then take i items else take i items ++ x ∷ []) (drop (i + 1) items)) among) ∙ ap (set_union (take i items)) (sym (drop-read items i x h is)) ∙ whole

pub many-present : (count : ℕ) (items : List Value) → length (map (present count) items) ≡ length items
many-present count items = length-map items (present count)

pub ruleset as_many = (many-present)
