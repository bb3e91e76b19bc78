-- What is told of candidates, found by their names, is what is told of all instances.
use Rattle.std.proofs.Common.{◌≡◌, ◌≢◌, ◌≤◌, ◌+◌, ℕ, zero, suc, true, false, ◌==◌, List, [], ◌∷◌, ◌++◌, length, None, refl, sym, ◌∙◌, ap, ap₂, arith, inl, inr, ne_eqb}
use Rattle.std.specs.List.{flat_map, AllByRecursion}
use Rattle.std.specs.List.Sorted.{IsStrictlySortedBy}
use Rattle.std.specs.Ordering.{nat_cmp, is_eq, is_gt}
use Rattle.std.specs.declared.cmp.Ordering.TheVariants.{Less}
use Rattle.std.proofs.lemmas.Bool.{cases_lt, cases_eq}
use Rattle.std.proofs.lemmas.Bool.Decides.{nat_tests}
use Rattle.std.proofs.lemmas.Cmp.{ranked}
use Rattle.plain_data.specs.Numbers.{is_among}
use Rattle.rp_content.specs.declared.instance.Instance.{Instance}
use Rattle.rp_rows.specs.Instances.{instance_of, IsInOrder}
use Rattle.rp_index.specs.Told.{told, told_of, IsToldAmong}

-- ---- ascending numbers, from one on

abbrev AtLeast : ℕ → List ℕ → Type 0
AtLeast b [] = Unit {0}
AtLeast b (u ∷ us) = (b ≤ u) × AtLeast (suc u) us

abbrev NamedFrom : ℕ → List Instance → Type 0
NamedFrom b [] = Unit {0}
NamedFrom b (i ∷ is) = (b ≤ i.name) × NamedFrom (suc i.name) is

is_less : (a b : ℕ) → nat_cmp a b ≡ Less → suc a ≤ b
is_less a b e = ranked a b Less (sym e)

is_more : (a b : ℕ) → is_gt (nat_cmp b a) ≡ true → suc a ≤ b
is_more a b e = grind (arith, nat_tests)

is_named : (u n : ℕ) → u ≡ n → is_eq (nat_cmp n u) ≡ true
is_named u n e = grind (arith, nat_tests)

isnt_named : (u n : ℕ) → u ≢ n → is_eq (nat_cmp n u) ≡ false
isnt_named u n e = grind (arith, nat_tests)

sorted_from : (b : ℕ) (us : List ℕ) → AllByRecursion (λ u. b ≤ u) us → IsStrictlySortedBy nat_cmp us → AtLeast b us
unfolding IsStrictlySortedBy
sorted_from b [] least order = tt
sorted_from b (u ∷ us) least order = (least.0, sorted_from (suc u) us (above us order.0) order.1)
  where
    above : (vs : List ℕ) → AllByRecursion (λ v. nat_cmp u v ≡ Less) vs → AllByRecursion (λ v. suc u ≤ v) vs
    above [] all = tt
    above (v ∷ vs) all = (is_less u v all.0, above vs all.1)

named_from : (b : ℕ) (is : List Instance) → AllByRecursion (λ i. b ≤ i.name) is → IsInOrder is → NamedFrom b is
named_from b [] least order = tt
named_from b (i ∷ is) least order = (least.0, named_from (suc i.name) is (above is order.0) order.1)
  where
    above : (js : List Instance) → AllByRecursion (λ j. is_gt (nat_cmp j.name i.name) ≡ true) js → AllByRecursion (λ j. suc i.name ≤ j.name) js
    above [] all = tt
    above (j ∷ js) all = (is_more i.name j.name all.0, above js all.1)

all_least : (us : List ℕ) → AllByRecursion (λ u. zero ≤ u) us
all_least [] = tt
all_least (u ∷ us) = (omega arith, all_least us)

all_named : (is : List Instance) → AllByRecursion (λ (i : Instance). zero ≤ i.name) is
all_named [] = tt
all_named (i ∷ is) = (omega arith, all_named is)

lower : (b c : ℕ) (us : List ℕ) → b ≤ c → AtLeast c us → AtLeast b us
lower b c [] h from = tt
lower b c (u ∷ us) h from = let first = from.0 in (omega arith, from.1)

lower_named : (b c : ℕ) (is : List Instance) → b ≤ c → NamedFrom c is → NamedFrom b is
lower_named b c [] h from = tt
lower_named b c (i ∷ is) h from = let first = from.0 in (omega arith, from.1)

-- ---- one step of two walks

-- none has a name below the first
none_below : (u : ℕ) (is : List Instance) → NamedFrom (suc u) is → instance_of u is ≡ None
none_below u [] from = refl
none_below u (i ∷ is) from =
    let first = from.0 in
    rw (isnt_named u i.name (λ e. omega arith)) (none_below u is (lower_named (suc u) (suc i.name) is (omega arith) from.1))

not_among : (n : ℕ) (us : List ℕ) → AtLeast (suc n) us → is_among us n ≡ false
not_among n [] from = refl
not_among n (u ∷ us) from =
    let first = from.0 in
    rw (ne_eqb u n (λ e. omega arith)) (not_among n us (lower (suc n) (suc u) us (omega arith) from.1))

module _ {B : Type 0} (F : Instance → List B) where
  -- a first candidate below all instances is none of them
  still_told : (u : ℕ) (us : List ℕ) (is : List Instance) → NamedFrom (suc u) is → IsToldAmong F (u ∷ us) is → IsToldAmong F us is
  still_told u us [] from covered = tt
  still_told u us (i ∷ is) from covered =
      let first = from.0 in
      let other : (u == i.name) ≡ false = ne_eqb u i.name (λ e. omega arith) in
      (λ e. covered.0 (rw other e), still_told u us is (lower_named (suc u) (suc i.name) is (omega arith) from.1) covered.1)

  -- candidates behind an instance aren't it
  passed_by : (i : Instance) (us : List ℕ) (is : List Instance) → AtLeast (suc i.name) us → flat_map (told_of F (i ∷ is)) us ≡ flat_map (told_of F is) us
  passed_by i [] is from = refl
  passed_by i (u ∷ us) is from =
      let first = from.0 in
      let other : is_eq (nat_cmp i.name u) ≡ false = isnt_named u i.name (λ e. omega arith) in
      let rest = passed_by i us is (lower (suc i.name) (suc u) us (omega arith) from.1) in
      rw other (ap (λ l. told_of F is u ++ l) rest)

  nothing : (us : List ℕ) → flat_map (told_of F []) us ≡ []
  nothing [] = refl
  nothing (u ∷ us) = nothing us

  all_none : (is : List Instance) → IsToldAmong F [] is → flat_map F is ≡ []
  all_none [] covered = refl
  all_none (i ∷ is) covered = rw (covered.0 refl) (all_none is covered.1)

  walked : (fuel : ℕ) (us : List ℕ) (is : List Instance) → length us + length is ≤ fuel → AtLeast 0 us → NamedFrom 0 is → IsToldAmong F us is → flat_map (told_of F is) us ≡ flat_map F is
  walked fuel [] is short from named covered = sym (all_none is covered)
  walked fuel (u ∷ us) [] short from named covered = nothing us
  walked zero (u ∷ us) (i ∷ is) short from named covered = absurd (omega arith)
  walked (suc fuel) (u ∷ us) (i ∷ is) short from named covered = elim (cases_lt u i.name) [
    | inl below ↦
        let behind : NamedFrom (suc u) (i ∷ is) = (below, named.1) in
        ap (λ o. told F o ++ flat_map (told_of F (i ∷ is)) us) (none_below u (i ∷ is) behind)
        ∙ walked fuel us (i ∷ is) (omega arith) (lower 0 (suc u) us (omega arith) from.1) named (still_told u us (i ∷ is) behind covered)
    | inr from_on ↦ elim (cases_eq u i.name) [
      | inl same ↦
          let found : told_of F (i ∷ is) u ≡ F i = rw (is_named u i.name same) refl in
          let rest = passed_by i us is (lower (suc i.name) (suc u) us (omega arith) from.1) in
          let behind : NamedFrom (suc u) is = lower_named (suc u) (suc i.name) is (omega arith) named.1 in
          let others = walked fuel us is (omega arith) (lower 0 (suc u) us (omega arith) from.1) (lower_named 0 (suc i.name) is (omega arith) named.1) (still_told u us is behind covered.1) in
          ap₂ (λ (a b : List B). a ++ b) found (rest ∙ others)
      | inr other ↦ elim (cases_lt i.name u) [
        | inl above ↦
            let ahead : AtLeast (suc i.name) (u ∷ us) = (above, from.1) in
            let none : F i ≡ [] = covered.0 (not_among i.name (u ∷ us) ahead) in
            passed_by i (u ∷ us) is ahead ∙ walked fuel (u ∷ us) is (omega arith) from (lower_named 0 (suc i.name) is (omega arith) named.1) covered.1
            ∙ sym (ap (λ l. l ++ flat_map F is) none)
        | inr back ↦ absurd (other (omega arith))
      ]
    ]
  ]

  -- candidates in order, none too few
  pub told_by_candidates : (us : List ℕ) (is : List Instance) → IsStrictlySortedBy nat_cmp us → IsInOrder is → IsToldAmong F us is → flat_map (told_of F is) us ≡ flat_map F is
  told_by_candidates us is order named covered =
      walked (length us + length is) us is (omega arith) (sorted_from 0 us (all_least us) order) (named_from 0 is (all_named is) named) covered
