-- Who of several takes an item first, and whether another does.
use Rattle.std.proofs.Common.{◌≡◌, ◌<◌, ◌+◌, ℕ, zero, suc, Bool, true, false, not, ◌||◌, ◌==◌, if◌then◌else◌, cond, List, [], ◌∷◌, ◌++◌, length, filter, take, get_or, Option, Some, None, Bor, refl, sym, ◌∙◌, ap, subst, arith}
use Rattle.std.proofs.lemmas.Bool.{eq-eqb}
use Rattle.std.proofs.lemmas.Bool.Decides.{nat_tests}
use Rattle.std.proofs.lemmas.List.{take_more}
use Rattle.std.proofs.lemmas.List.Elements.{filter-append}
use Rattle.std.specs.Prelude.{⊤, MatchOption, is_some}
use Rattle.std.specs.List.Sorted.{IsStrictlySortedBy}
use Rattle.std.specs.Option.{option_or}
use Rattle.std.specs.Ordering.{nat_cmp}
use Rattle.std.specs.Str.{bytes_eq}
use Rattle.plain_data.specs.Numbers.{is_among}
use Rattle.ex_named.specs.declared.declaration.NamedType.{NamedType}
use Rattle.graphs.proofs.Families.{is_among-filter}
use Rattle.graphs.proofs.Sets.{or_left}
use Rattle.name_tables.specs.Names.{first_of, place_of}
use Rattle.name_tables.proofs.Places.{place_of-push}
use Rattle.ex_selects.specs.declared.sorts.Class.{Class}
use Rattle.ex_selects.specs.declared.sorts.Class.TheVariants as class
use Rattle.ex_selects.specs.Kept.{kept_in, of_class, single, StandFor, StandForClass}
use Rattle.ex_selects.specs.Shared.{shared, unrenamed}
use Rattle.ex_selects.specs.Sorts.{all_sorts}
use Rattle.ex_selects.specs.Takers.{and_taker, with_taker, lone_of, ByName, AreTakersOf, AreTakersAt, takers_in}
use Rattle.ex_selects.proofs.Standing.{before, first_true}

-- ---- one type more

again : (a b : Bool) → ((a || b) || b) ≡ (a || b)
again true b = refl
again false true = refl
again false false = refl

abbrev beside : ℕ → Bool → ℕ × Bool
beside number more = (number, more)

twice : (first : ℕ × Bool) (k : ℕ) → and_taker (Some (and_taker (Some first) k)) k ≡ and_taker (Some first) k
twice first k = ap (beside first.0) (again first.1 (not (first.0 == k)))

itself : (k : ℕ) → and_taker (Some (and_taker None k)) k ≡ and_taker None k
itself k = let same : (k == k) ≡ true = eq-eqb k k refl in rw same refl

pub either_taker : (a b : Bool) (first : Option (ℕ × Bool)) (k : ℕ) → with_taker b (with_taker a first k) k ≡ with_taker (a || b) first k
either_taker true true None k = ap (λ f. Some f) (itself k)
either_taker true true (Some first) k = ap (λ f. Some f) (twice first k)
either_taker true false first k = refl
either_taker false b first k = refl

pub item_more : (name new : List ℕ) (names : List (List ℕ)) → (is_some (place_of name names) || bytes_eq new name) ≡ is_some (place_of name (names ++ new ∷ []))
item_more name new names = joined (place_of name names) (bytes_eq new name) ∙ ap is_some (sym (place_of-push name new names))
  where
    joined : (o : Option ℕ) (b : Bool) → (is_some o || b) ≡ is_some (option_or o (if b then Some (length names) else None))
    joined None true = refl
    joined None false = refl
    joined (Some n) b = refl

joined_first : (b : Bool) (ys : List ℕ) (k : ℕ) → ((j : ℕ) → is_among ys j ≡ true → j < k) → with_taker b (first_of ys) k ≡ first_of (ys ++ cond b (k ∷ []) [])
joined_first false [] k below = refl
joined_first false (y ∷ []) k below = refl
joined_first false (y ∷ z ∷ ys) k below = refl
joined_first true [] k below = refl
joined_first true (y ∷ []) k below =
    let less = below y (or_left (y == y) false (eq-eqb y y refl)) in
    let other : (y == k) ≡ false = grind (arith, nat_tests, less) in
    rw other refl
joined_first true (y ∷ z ∷ ys) k below = refl

-- a type behind others of smaller numbers
pub type_more : (p : ℕ → Bool) (ks : List ℕ) (i : ℕ) → IsStrictlySortedBy nat_cmp ks → i < length ks
    → with_taker (p (get_or ks i 0)) (first_of (filter p (take i ks))) (get_or ks i 0) ≡ first_of (filter p (take (i + 1) ks))
type_more p ks i up within =
    let k = get_or ks i 0 in
    joined_first (p k) (filter p (take i ks)) k
    (λ j there. before ks i 0 up within j (first_true (is_among (take i ks) j) (p j) (sym (is_among-filter p (take i ks) j) ∙ there)))
    ∙ ap first_of (sym (filter-append p (take i ks) (k ∷ [])))
    ∙ ap (λ xs. first_of (filter p xs)) (sym (take_more ks i 0 within))

-- ---- tables

pub table_more : (P : ℕ → Option ByName → Type 0) (all : List (Option ByName)) (o : Option ByName) → ((n : ℕ) → P n (takers_in all n)) → P (length all) o
    → (n : ℕ) → P n (takers_in (all ++ o ∷ []) n)
table_more P [] o each here zero = here
table_more P [] o each here (suc n) = each (suc n)
table_more P (a ∷ all) o each here zero = each zero
table_more P (a ∷ all) o each here (suc n) = table_more (λ k. P (suc k)) all o (λ k. each (suc k)) here n

pub kept_stands : (types : List NamedType) (sought : Class) (n at : ℕ) (table : List (Option (List ℕ))) (o : Option (Bor (List ℕ))) → at ≡ unrenamed types n
    → ((m : ℕ) → MatchOption (kept_in table m) ⊤ (λ kept. StandFor (all_sorts types) (of_class (shared types) (all_sorts types) sought m) kept))
    → MatchOption o (kept_in table at ≡ None) (λ kept. kept_in table at ≡ Some kept.now) → MatchOption o ⊤ (λ found. StandForClass types sought n found.now)
kept_stands types sought n at table None is stand found = tt
kept_stands types sought n at table (Some k) is stand found =
    rw (← is) (subst (λ o. MatchOption o ⊤ (λ kept. StandFor (all_sorts types) (of_class (shared types) (all_sorts types) sought at) kept)) found (stand at))

takers_there : (types : List NamedType) (number : ℕ) (kept : Option (List ℕ)) (takers : ByName)
    → MatchOption kept ⊤ (λ ks. StandForClass types class.Items number ks) → AreTakersAt types kept (Some takers) → AreTakersOf types number takers
takers_there types number None takers stand tell = absurd tell
takers_there types number (Some ks) takers stand tell = record { kept = ks; stand = stand; tell = tell }

pub takers_known : (types : List NamedType) (n at : ℕ) (kept : List (Option (List ℕ))) (table : List (Option ByName)) (o : Option (Bor ByName)) → at ≡ unrenamed types n
    → ((m : ℕ) → MatchOption (kept_in kept m) ⊤ (λ ks. StandFor (all_sorts types) (of_class (shared types) (all_sorts types) class.Items m) ks))
    → ((m : ℕ) → AreTakersAt types (kept_in kept m) (takers_in table m))
    → MatchOption o ⊤ (λ found. takers_in table at ≡ Some found.now) → MatchOption o ⊤ (λ found. AreTakersOf types n found.now)
takers_known types n at kept table None is stand tell found = tt
takers_known types n at kept table (Some t) is stand tell found =
    takers_there types n (kept_in kept at) t.now (rw (← is) (stand at)) (subst (AreTakersAt types (kept_in kept at)) found (tell at))

-- ---- the only one

pub only_first : (xs : List ℕ) → single xs ≡ lone_of (first_of xs)
only_first [] = refl
only_first (x ∷ []) = refl
only_first (x ∷ y ∷ xs) = refl
