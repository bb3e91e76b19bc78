-- What is told of, as groups are added and dropped.
use Rattle.std.proofs.Common.{◌≡◌, ℕ, ◌+◌, ◌<◌, Bool, true, false, ◌||◌, ◌==◌, cond, List, [], ◌∷◌, ◌++◌, length, take, get_or, Option, Some, None, Result, Ok, Err, OnOk, OnErr, refl, sym, ◌∙◌, ap, subst}
use Rattle.std.specs.Prelude.{if◌then◌else◌}
use Rattle.std.specs.List.{list_any, AllByRecursion}
use Rattle.std.specs.BTreeMap.{BTreeMap, get, is_at}
use Rattle.std.specs.Ordering.{nat_cmp}
use Rattle.std.specs.Cmp.{unsigned_tied}
use Rattle.std.proofs.lemmas.Bool.{false≢true, eqb-true, eq-eqb}
use Rattle.std.proofs.lemmas.List.{take_more}
use Rattle.sorted_tables.proofs.Ascending.{all_weaker, all-append}
use Rattle.rp_rows.specs.declared.rows.Key.{Key}
use Rattle.rp_rows.specs.Rows.{key_cmp, same_key}
use Rattle.rp_rows.specs.Listings.{itself}
use Rattle.rp_rows.proofs.Keys.{key_total}
use Rattle.rp_listers.specs.Kept.{KeptListers, number_of, first_at, all_of, others_at, is_first, has_key, tells_at, tells, with_key, without_key}
use Rattle.rp_listers.proofs.Among.{same_is, has_there, has_without, has_still}

-- ---- lists of models

-- what holds of each still does where it does of those that haven't the number
pub all_still : (P Q : Key → Type 0) (n : ℕ) → ((m : Key) → (number_of m == n) ≡ false → P m → Q m) → (ms : List Key) → list_any (λ m. number_of m == n) ms ≡ false → AllByRecursion P ms → AllByRecursion Q ms
all_still P Q n each [] none all = tt
all_still P Q n each (m ∷ ms) none all = by (all_still P Q n each ms) (number_of m == n) refl none
  where
    by : (list_any (λ j. number_of j == n) ms ≡ false → AllByRecursion P ms → AllByRecursion Q ms) → (t : Bool) → (number_of m == n) ≡ t → (t || list_any (λ j. number_of j == n) ms) ≡ false → Q m × AllByRecursion Q ms
    by rest true e h = cc
    by rest false e h = (each m e all.0, rest h all.1)

-- one more of the models is told of, and those before it still are
pub told_next : (k : Key) (ms : List Key) (i : ℕ) (m : Key) (old new : KeptListers) → ((j : Key) (n : ℕ) → tells_at j n old ≡ true → tells_at j n new ≡ true) → i < length ms → m ≡ get_or ms i m → tells k m new ≡ true
    → AllByRecursion (λ j. tells k j old ≡ true) (take i ms) → AllByRecursion (λ j. tells k j new ≡ true) (take (i + 1) ms)
told_next k ms i m old new kept within is told before =
    let still = all_weaker key_cmp itself key_total (λ j. tells k j old ≡ true) (λ j. tells k j new ≡ true) (λ j. kept k (number_of j)) (take i ms) before in
    subst (AllByRecursion (λ j. tells k j new ≡ true)) (sym (take_more ms i m within ∙ ap (λ j. take i ms ++ j ∷ []) (sym is)))
    (all-append key_cmp itself key_total (λ j. tells k j new ≡ true) (take i ms) (m ∷ []) still (told, tt))

-- ---- maps under numbers

-- the map with a value at a number
abbrev pub IsPut : {A : Type 0} → BTreeMap ℕ A → ℕ → Option A → BTreeMap ℕ A → Type 0
IsPut old number value new = (q : ℕ) → get nat_cmp new q ≡ cond (is_at (nat_cmp number) q) value (get nat_cmp old q)

put_there : {A : Type 0} (old new : BTreeMap ℕ A) (number n : ℕ) (value : Option A) → IsPut old number value new → (number == n) ≡ true → get nat_cmp new n ≡ value
put_there old new number n value put e = put n ∙ ap (λ t. cond t value (get nat_cmp old n)) (unsigned_tied number n ∙ e)

put_elsewhere : {A : Type 0} (old new : BTreeMap ℕ A) (number n : ℕ) (value : Option A) → IsPut old number value new → (number == n) ≡ false → get nat_cmp new n ≡ get nat_cmp old n
put_elsewhere old new number n value put e = put n ∙ ap (λ t. cond t value (get nat_cmp old n)) (unsigned_tied number n ∙ e)

-- another group than the one that is taken out stays the first
pub first_stays : (g k : Key) (number n : ℕ) (old new : BTreeMap ℕ Key) → is_first g (first_at number old.entries) ≡ true → IsPut old number None new → same_key g k ≡ false → is_first k (first_at n old.entries) ≡ true → is_first k (first_at n new.entries) ≡ true
first_stays g k number n old new gone put apart is = by (number == n) refl
  where
    another : (o : Option Key) → is_first g o ≡ true → is_first k o ≡ true → false ≡ true
    another None h i = h
    another (Some j) h i = sym apart ∙ ap (same_key g) (sym (same_is k j i)) ∙ h

    by : (t : Bool) → (number == n) ≡ t → is_first k (first_at n new.entries) ≡ true
    by true e = absurd (false≢true (another (first_at number old.entries) gone (ap (λ q. is_first k (first_at q old.entries)) (eqb-true number n e) ∙ is)))
    by false e = ap (is_first k) (put_elsewhere old new number n None put e) ∙ is

-- none of the others is lost where one is added to those of a number, or none is
module _ {T E : Type 0} (old new : BTreeMap ℕ (List Key)) (number : ℕ) (g : Key) (was now : List Key) (r : Result T E) (put : IsPut old number (Some now) new) (stood : was ≡ others_at number old.entries)
    (added : OnOk r (now ≡ with_key g was)) (kept : OnErr r (now ≡ was)) where
  still_among : (s : Result T E) → OnOk s (now ≡ with_key g was) → OnErr s (now ≡ was) → (k : Key) → has_key k was ≡ true → has_key k now ≡ true
  still_among (Ok x) is same k has = ap (has_key k) is ∙ has_still g k was has
  still_among (Err x) is same k has = ap (has_key k) same ∙ has

  pub others_kept : (k : Key) (n : ℕ) → has_key k (others_at n old.entries) ≡ true → has_key k (others_at n new.entries) ≡ true
  others_kept k n has = by (number == n) refl
    where
      by : (t : Bool) → (number == n) ≡ t → has_key k (others_at n new.entries) ≡ true
      by true e =
          let before : has_key k was ≡ true = ap (has_key k) (stood ∙ ap (λ q. others_at q old.entries) (eqb-true number n e)) ∙ has in
          ap (λ o. has_key k (all_of o)) (put_there old new number n (Some now) put e) ∙ still_among r added kept k before
      by false e = ap (λ o. has_key k (all_of o)) (put_elsewhere old new number n (Some now) put e) ∙ has

  pub other_added : OnOk r (has_key g (others_at number new.entries) ≡ true)
  other_added = by r added
    where
      by : (s : Result T E) → OnOk s (now ≡ with_key g was) → OnOk s (has_key g (others_at number new.entries) ≡ true)
      by (Ok x) is = ap (λ o. has_key g (all_of o)) (put_there old new number number (Some now) put (eq-eqb number number refl)) ∙ ap (has_key g) is ∙ has_there g was
      by (Err x) is = tt

-- ---- a group that isn't told of any longer at a number

module _ (g k : Key) (n number : ℕ) (old new : KeptListers) (others : others_at n new.others ≡ (if n == number then without_key g (others_at n old.others) else others_at n old.others)) where
  either : (a b r : Bool) → (a ≡ true → r ≡ true) → (b ≡ true → r ≡ true) → (a || b) ≡ true → r ≡ true
  either true b r f h e = f refl
  either false b r f h e = h e

  or_left : (a b : Bool) → a ≡ true → (a || b) ≡ true
  or_left true b e = refl
  or_left false b e = cc

  or_right : (a b : Bool) → b ≡ true → (a || b) ≡ true
  or_right true b e = refl
  or_right false b e = e

  -- another number's
  pub dropped_number : first_at n new.firsts ≡ first_at n old.firsts → (n == number) ≡ false → tells_at k n old ≡ true → tells_at k n new ≡ true
  dropped_number first apart was =
      (λ i. is_first k (first i) || has_key k ((others ∙ ap (λ t. if t then without_key g (others_at n old.others) else others_at n old.others) apart) i)) ∙ was

  -- another group
  pub dropped_group : (is_first k (first_at n old.firsts) ≡ true → is_first k (first_at n new.firsts) ≡ true) → same_key g k ≡ false → tells_at k n old ≡ true → tells_at k n new ≡ true
  dropped_group first apart was =
      either (is_first k (first_at n old.firsts)) (has_key k (others_at n old.others)) (tells_at k n new)
      (λ e. or_left (is_first k (first_at n new.firsts)) (has_key k (others_at n new.others)) (first e))
      (λ e. or_right (is_first k (first_at n new.firsts)) (has_key k (others_at n new.others)) (ap (has_key k) others ∙ by (n == number) ∙ e))
      was
    where
      by : (t : Bool) → has_key k (if t then without_key g (others_at n old.others) else others_at n old.others) ≡ has_key k (others_at n old.others)
      by true = has_without g k (others_at n old.others) apart
      by false = refl
