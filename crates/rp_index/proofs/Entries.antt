-- Lists in which one element more stands, another one, or one less.
use Rattle.std.proofs.Common.{◌≡◌, ◌≢◌, ◌<◌, ℕ, zero, suc, Bool, true, false, ◌||◌, ◌==◌, List, [], ◌∷◌, length, take, drop, set, get_or, refl, sym, ◌∙◌, ap, arith}
use Rattle.std.proofs.Common.{⊎_elim}
use Rattle.std.proofs.lemmas.Bool.{and_parts, cases_Bool, eq-eqb}
use Rattle.std.proofs.lemmas.List.{take-append-drop, get_or_default}
use Rattle.std.proofs.lemmas.List.Folds.{list_any-append, list_any_at}
use Rattle.std.specs.List.{list_any, insert, remove}
use Rattle.plain_data.specs.Numbers.{is_among}
use Rattle.plain_data.proofs.Disjunctions.{or_turn}
use Rattle.rp_index.specs.declared.kinds.Kind.{Kind}
use Rattle.rp_index.specs.Index.{is_in_kind, is_under}
use Rattle.rp_index.specs.Pairs.{Grows, KeepsOthers}
use Rattle.rp_index.proofs.Tests.{or_left, or_right}

pub any_inserted : {X : Type 0} (p : X → Bool) (xs : List X) (i : ℕ) (x : X) → list_any p (insert xs i x) ≡ (p x || list_any p xs)
any_inserted p xs i x =
    list_any-append p (take i xs) (x ∷ drop i xs)
    ∙ or_turn (list_any p (take i xs)) (p x) (list_any p (drop i xs))
    ∙ ap (λ t. p x || t) (sym (list_any-append p (take i xs) (drop i xs)) ∙ ap (list_any p) (take-append-drop i xs))

-- two readings of one element
pub same_element : {X : Type 0} (xs : List X) (i : ℕ) (x y : X) → i < length xs → x ≡ get_or xs i x → y ≡ get_or xs i y → x ≡ y
same_element xs i x y within first second = first ∙ get_or_default xs i x y within ∙ sym second

-- what an element that is gone doesn't pass is still passed
pub any_removed : {X : Type 0} (p : X → Bool) (xs : List X) (i : ℕ) (x : X) → i < length xs → x ≡ get_or xs i x → p x ≡ false → list_any p xs ≡ true → list_any p (remove xs i) ≡ true
any_removed p [] i x within is fails there = let none : ⊥ = omega arith in absurd none
any_removed p (y ∷ ys) zero x within is fails there = let gone : p y ≡ false = ap p (sym is) ∙ fails in rw gone at there
any_removed p (y ∷ ys) (suc i) x within is fails there = ⊎_elim
    (λ (here : p y ≡ true). or_left (p y) (list_any p (remove ys i)) here)
    (λ (other : p y ≡ false). rw other (any_removed p ys i x (omega arith) is fails (rw other at there)))
    (cases_Bool (p y))

-- another element that passes what the former passed
pub any_changed : {X : Type 0} (p : X → Bool) (xs : List X) (i : ℕ) (x y : X) → i < length xs → x ≡ get_or xs i x → (p x ≡ true → p y ≡ true) → list_any p xs ≡ true → list_any p (set xs i y) ≡ true
any_changed p [] i x y within is up there = let none : ⊥ = omega arith in absurd none
any_changed p (z ∷ zs) zero x y within is up there = ⊎_elim
    (λ (here : p z ≡ true). or_left (p y) (list_any p zs) (up (ap p is ∙ here)))
    (λ (other : p z ≡ false). or_right (p y) (list_any p zs) (rw other at there))
    (cases_Bool (p z))
any_changed p (z ∷ zs) (suc i) x y within is up there = ⊎_elim
    (λ (here : p z ≡ true). or_left (p z) (list_any p (set zs i y)) here)
    (λ (other : p z ≡ false). rw other (any_changed p zs i x y (omega arith) is up (rw other at there)))
    (cases_Bool (p z))

pub any_set : {X : Type 0} (p : X → Bool) (xs : List X) (i : ℕ) (y : X) → i < length xs → p y ≡ true → list_any p (set xs i y) ≡ true
any_set p [] i y within here = let none : ⊥ = omega arith in absurd none
any_set p (z ∷ zs) zero y within here = or_left (p y) (list_any p zs) here
any_set p (z ∷ zs) (suc i) y within here = or_right (p z) (list_any p (set zs i y)) (any_set p zs i y (omega arith) here)

-- ---- a name under an entity

pub name_in : (xs : List ℕ) (i n name : ℕ) → i < length xs → get_or xs i name ≡ name → is_among xs n ≡ (is_among xs n || name == n)
name_in xs i n name within is = ⊎_elim
    (λ (same : (name == n) ≡ true).
    let here : is_among xs n ≡ true = list_any_at (λ m. m == n) xs i name within (ap (λ m. m == n) is ∙ same) in
    here ∙ sym (or_left (is_among xs n) (name == n) here))
    (λ (other : (name == n) ≡ false). rw other (either_false (is_among xs n)))
    (cases_Bool (name == n))
  where
    either_false : (b : Bool) → b ≡ (b || false)
    either_false true = refl
    either_false false = refl

pub kind_grows : (kinds : List Kind) (i : ℕ) (k l : Kind) → i < length kinds → k ≡ get_or kinds i k → l.entity ≡ k.entity → ((n : ℕ) → is_among k.names.items n ≡ true → is_among l.names.items n ≡ true)
    → Grows (is_under kinds) (is_under (set kinds i l))
kind_grows kinds i k l within is same up = λ q. any_changed (is_in_kind q) kinds i k l within is
    (λ e. let parts = and_parts (k.entity == q.0) (is_among k.names.items q.1) e in rw (same, parts.0) (up q.1 parts.1))

pub kind_keeps : (name : ℕ) (kinds : List Kind) (i : ℕ) (k l : Kind) → i < length kinds → k ≡ get_or kinds i k → l.entity ≡ k.entity
    → ((n : ℕ) → n ≢ name → is_among k.names.items n ≡ true → is_among l.names.items n ≡ true) → KeepsOthers name (is_under kinds) (is_under (set kinds i l))
kind_keeps name kinds i k l within is same up = λ q other. any_changed (is_in_kind q) kinds i k l within is
    (λ e. let parts = and_parts (k.entity == q.0) (is_among k.names.items q.1) e in rw (same, parts.0) (up q.1 other parts.1))

pub kind_has : (kinds : List Kind) (i entity name : ℕ) (l : Kind) → i < length kinds → l.entity ≡ entity → is_among l.names.items name ≡ true → is_under (set kinds i l) (entity, name) ≡ true
kind_has kinds i entity name l within same here = any_set (is_in_kind (entity, name)) kinds i l within (rw (eq-eqb l.entity entity same) here)
