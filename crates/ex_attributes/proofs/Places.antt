-- What tables list.
use Rattle.std.proofs.Common.{◌≡◌, ℕ, suc, ◌+◌, ◌<◌, Bool, true, false, ◌==◌, List, [], ◌∷◌, ◌++◌, map, filter, length, get_or, drop, if◌then◌else◌, Option, Some, None, slice_get, refl, sym, ◌∙◌, ap, arith}
use Rattle.std.specs.BTreeMap.{BTreeMap}
use Rattle.std.specs.Global.{Vec}
use Rattle.std.specs.List.{flat_map, cons_option}
use Rattle.std.specs.List.Sorted.{IsNonDecreasingBy, IsStrictlyIncreasing}
use Rattle.std.specs.Str.{bytes_eq}
use Rattle.std.proofs.Math.Seq.{drop-cons}
use Rattle.std.proofs.lemmas.Bool.Decides.{nat_tests}
use Rattle.std.proofs.lemmas.List.Kept.{IsNonDecreasingBy-filter}
use Rattle.plain_data.specs.Numbers.{is_among}
use Rattle.ancestors.proofs.InTurn.{of_members}
use Rattle.ex_attributes.specs.Tables.{rows_at, places_at, places_from, HasPlaces, behind}

-- ---- the places of keys

append : (xs : List ℕ) (y : ℕ) (ys : List ℕ) → (xs ++ y ∷ []) ++ ys ≡ xs ++ y ∷ ys
append [] y ys = refl
append (x ∷ xs) y ys = ap (λ l. x ∷ l) (append xs y ys)

is_on : (b : Bool) (i : ℕ) (rest before now : List ℕ) → now ≡ (if b then before ++ i ∷ [] else before) → now ++ rest ≡ before ++ (if b then i ∷ rest else rest)
is_on true i rest before now is = ap (λ l. l ++ rest) is ∙ append before i rest
is_on false i rest before now is = ap (λ l. l ++ rest) is

pub place_next : (k key : List ℕ) (i : ℕ) (keys : List (List ℕ)) (before now : List ℕ) → now ≡ (if bytes_eq k key then before ++ i ∷ [] else before)
    → now ++ places_from key (suc i) keys ≡ before ++ places_from key i (k ∷ keys)
place_next k key i keys before now is = is_on (bytes_eq k key) i (places_from key (suc i) keys) before now is

module _ {A : Type 0} (key_of : A → List ℕ) (key : List ℕ) where
  pub stands : (before : List A) (x : A) (xs : List A) → slice_get (before ++ x ∷ xs) (length before) ≡ Some x
  stands [] x xs = refl
  stands (b ∷ before) x xs = stands before x xs

  pub moved : (before : List A) (x : A) (xs : List A) → (before ++ x ∷ []) ++ xs ≡ before ++ x ∷ xs
  moved [] x xs = refl
  moved (b ∷ before) x xs = ap (λ l. b ∷ l) (moved before x xs)

  pub longer : (before : List A) (x : A) → length (before ++ x ∷ []) ≡ suc (length before)
  longer [] x = refl
  longer (b ∷ before) x = ap suc (longer before x)

  pub rows_from : (before xs : List A) → rows_at (before ++ xs) (places_from key (length before) (map key_of xs)) ≡ filter (λ a. bytes_eq (key_of a) key) xs
  rows_from before [] = refl
  rows_from before (x ∷ xs) = by (bytes_eq (key_of x) key)
      (ap (λ l. rows_at l (places_from key (suc (length before)) (map key_of xs))) (sym (moved before x xs))
      ∙ ap (λ n. rows_at ((before ++ x ∷ []) ++ xs) (places_from key n (map key_of xs))) (sym (longer before x))
      ∙ rows_from (before ++ x ∷ []) xs)
    where
      by : (b : Bool) → rows_at (before ++ x ∷ xs) (places_from key (suc (length before)) (map key_of xs)) ≡ filter (λ a. bytes_eq (key_of a) key) xs
          → rows_at (before ++ x ∷ xs) (if b then length before ∷ places_from key (suc (length before)) (map key_of xs) else places_from key (suc (length before)) (map key_of xs))
          ≡ (if b then x ∷ filter (λ a. bytes_eq (key_of a) key) xs else filter (λ a. bytes_eq (key_of a) key) xs)
      by true later = ap (λ o. cons_option o (rows_at (before ++ x ∷ xs) (places_from key (suc (length before)) (map key_of xs)))) (stands before x xs) ∙ ap (λ l. x ∷ l) later
      by false later = later

pub has_places : {A : Type 0} (key_of : A → List ℕ) (rows : List A) (keys : List (List ℕ)) (table : BTreeMap (Vec ℕ) (Vec ℕ))
    → keys ≡ map key_of rows → ((key : List ℕ) → places_at key table ≡ places_from key 0 keys) → HasPlaces key_of rows table
has_places key_of rows keys table are has = λ key. ap (rows_at rows) (has key ∙ ap (places_from key 0) are) ∙ rows_from key_of key [] rows

-- the rows in places, one place after another
pub rows_next : {A : Type 0} (rows : List A) (places : List ℕ) (i : ℕ) (before now : List A) → i < length places
    → now ≡ before ++ cons_option (slice_get rows (get_or places i 0)) []
    → now ++ rows_at rows (drop (i + 1) places) ≡ before ++ rows_at rows (drop i places)
rows_next {A} rows places i before now within is =
    let later : suc i ≡ i + 1 = omega arith in
    ap (λ l. l ++ rows_at rows (drop (i + 1) places)) is
    ∙ joins (slice_get rows (get_or places i 0)) before (rows_at rows (drop (i + 1) places))
    ∙ ap (λ j. before ++ cons_option (slice_get rows (get_or places i 0)) (rows_at rows (drop j places))) (sym later)
    ∙ ap (λ l. before ++ rows_at rows l) (sym (drop-cons places i 0 within))
  where
    joins : (o : Option A) (xs ys : List A) → (xs ++ cons_option o []) ++ ys ≡ xs ++ cons_option o ys
    joins None [] ys = refl
    joins (Some a) [] ys = refl
    joins o (x ∷ xs) ys = ap (λ l. x ∷ l) (joins o xs ys)

-- ---- of the members of a family

module _ {A : Type 0} (n : A → ℕ) (key_of : A → List ℕ) (rows : List A) (table : BTreeMap (Vec ℕ) (Vec ℕ)) (key : List ℕ) where
  one_member : (e : ℕ) (rows : List A) → filter (λ a. bytes_eq (behind (n a) (key_of a)) (behind e key)) rows ≡ filter (λ a. e == n a) (filter (λ a. bytes_eq (key_of a) key) rows)
  one_member e [] = refl
  one_member e (a ∷ rows) = grind (arith, nat_tests, one_member e rows)

  each_member : HasPlaces (λ a. behind (n a) (key_of a)) rows table → (members : List ℕ)
      → flat_map (λ e. rows_at rows (places_at (behind e key) table)) members ≡ flat_map (λ e. filter (λ a. e == n a) (filter (λ a. bytes_eq (key_of a) key) rows)) members
  each_member has [] = refl
  each_member has (e ∷ members) =
      ap (λ l. l ++ flat_map (λ e. rows_at rows (places_at (behind e key) table)) members) (has (behind e key) ∙ one_member e rows)
      ∙ ap (λ l. filter (λ a. e == n a) (filter (λ a. bytes_eq (key_of a) key) rows) ++ l) (each_member has members)

  -- where members and rows ascend, the rows of the members are those of the family
  pub of_each_member : HasPlaces (λ a. behind (n a) (key_of a)) rows table → (members fam : List ℕ) → members ≡ fam → IsStrictlyIncreasing members → IsNonDecreasingBy n rows
      → flat_map (λ e. rows_at rows (places_at (behind e key) table)) members ≡ filter (λ a. is_among fam (n a)) (filter (λ a. bytes_eq (key_of a) key) rows)
  of_each_member has members fam same ascend rise =
      each_member has members
      ∙ of_members n members fam (filter (λ a. bytes_eq (key_of a) key) rows) same ascend (IsNonDecreasingBy-filter n (λ a. bytes_eq (key_of a) key) rows rise)
