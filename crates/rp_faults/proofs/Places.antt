-- Instances that stand twice among others, by their places.
use Rattle.std.proofs.Common.{◌≡◌, ℕ, zero, suc, ◌+◌, ◌<◌, ◌≤◌, ◌==◌, Bool, true, false, ◌||◌, nat_lt, List, [], ◌∷◌, ◌++◌, map, take, drop, length, get_or, Option, Some, None, refl, sym, ap, ◌∙◌, arith, if◌then◌else◌, append_assoc}
use Rattle.std.proofs.lemmas.Bool.Decides.{nat_tests}
use Rattle.std.proofs.lemmas.List.{length-append}
use Rattle.std.proofs.lemmas.List.Folds.{list_any-append}
use Rattle.std.specs.List.{list_any}
use Rattle.std.specs.Option.{option_and_then, option_map}
use Rattle.rp_numbers.specs.Logical.{is_true, of_test}
use Rattle.rp_meaning.specs.Bare.{place_in}
use Rattle.rp_meaning.specs.Faults.{has_twice}
use Rattle.rp_meaning.specs.Reading.{present, present_in}
use Rattle.rp_operations.specs.Equality.{equal_within, equality, same_scalars}
use Rattle.rp_operations.specs.Operations.{is_same, same, set_union}
use Rattle.rp_operations.specs.Seen.{Seen, Indeterminate, Instance, Number, Text, Bits, Truth, Item, Aggregate, depth, seen, with_seen}
use Rattle.rp_value.specs.declared.value.Value.{Value, out-Value}
use Rattle.rp_value.specs.declared.value.Value.TheFolds.{fold-Value, fold-roll-Value}
use Rattle.rp_value.specs.declared.value.Value.TheOpen.{Value-F}
use Rattle.rp_value.specs.declared.value.Value.TheVariants as v
use Rattle.rp_value.specs.declared.value.Value.TheViews.{roll-Value, out-roll-Value, roll-out-Value}
use Rattle.rp_faults.specs.Twice.{and_place, places_in, repeats}
use Rattle.rp_faults.proofs.Repeated.{at-most, drop-read}

-- ---- which values are the same as an instance, and as `?`

abbrev sight : Value → Value × Seen
sight = fold-Value (Value × Seen) with_seen

seen-Inst : (p : ℕ) → seen (v.Inst p) ≡ Instance p
unfolding seen
seen-Inst p = ap (λ x. (sight x).1) (sym (v.rolls-Inst p)) ∙ ap (λ q. q.1) (fold-roll-Value (Value × Seen) with_seen (Value-F.Inst p))

seen-Indet : seen v.Indet ≡ Indeterminate
unfolding seen
seen-Indet = ap (λ x. (sight x).1) (sym v.rolls-Indet) ∙ ap (λ q. q.1) (fold-roll-Value (Value × Seen) with_seen Value-F.Indet)

within-Instance : (n p : ℕ) (x y : Value) → seen x ≡ Instance p → equal_within same_scalars n x y ≡ same_scalars (Instance p) (seen y)
within-Instance zero p x y is = rw is refl
within-Instance (suc n) p x y is = rw is refl

within-Indeterminate : (n : ℕ) (x y : Value) → seen x ≡ Indeterminate → equal_within same_scalars n x y ≡ same_scalars Indeterminate (seen y)
within-Indeterminate zero x y is = rw is refl
within-Indeterminate (suc n) x y is = rw is refl

of-test : (b : Bool) → is_true (of_test b) ≡ b
of-test true = refl
of-test false = refl

same-Inst : (p q : ℕ) → is_same (v.Inst p) (v.Inst q) ≡ (p == q)
unfolding same equality
same-Inst p q =
    ap is_true (within-Instance (depth (v.Inst p) + depth (v.Inst q)) p (v.Inst p) (v.Inst q) (seen-Inst p))
    ∙ ap (λ s. is_true (same_scalars (Instance p) s)) (seen-Inst q) ∙ of-test (p == q)

same-none : (p : ℕ) → is_same (v.Inst p) v.Indet ≡ false
unfolding same equality
same-none p =
    ap is_true (within-Instance (depth (v.Inst p) + depth v.Indet) p (v.Inst p) v.Indet (seen-Inst p))
    ∙ ap (λ s. is_true (same_scalars (Instance p) s)) seen-Indet

none-scalars : (s : Seen) → is_true (same_scalars Indeterminate s) ≡ false
none-scalars Indeterminate = refl
none-scalars (Number n) = refl
none-scalars (Text t) = refl
none-scalars (Bits b) = refl
none-scalars (Truth l) = refl
none-scalars (Item n k) = refl
none-scalars (Instance p) = refl
none-scalars (Aggregate kind xs) = refl

none-same : (y : Value) → is_same v.Indet y ≡ false
unfolding same equality
none-same y = ap is_true (within-Indeterminate (depth v.Indet + depth y) v.Indet y seen-Indet) ∙ none-scalars (seen y)

none-among : (ys : List Value) → list_any (is_same v.Indet) ys ≡ false
none-among [] = refl
none-among (y ∷ ys) = λ i. none-same y i || none-among ys i

-- ---- values in a population

present-Inst : (count p : ℕ) → present count (v.Inst p) ≡ (if nat_lt p count then v.Inst p else v.Indet)
unfolding present
present-Inst count p = ap (present count) (sym (v.rolls-Inst p)) ∙ fold-roll-Value Value (present_in count) (Value-F.Inst p)

placed-by : (y : Value-F Value) (p : ℕ) → place_in y ≡ Some p → y ≡ Value-F.Inst p
placed-by (Value-F.Inst q) p is = let same : q ≡ p = cc in ap Value-F.Inst same
placed-by Value-F.Indet p is = absurd (cc)
placed-by (Value-F.Int n) p is = absurd (cc)
placed-by (Value-F.Dec d) p is = absurd (cc)
placed-by (Value-F.Str text) p is = absurd (cc)
placed-by (Value-F.Bin bits) p is = absurd (cc)
placed-by (Value-F.Log l) p is = absurd (cc)
placed-by (Value-F.Item n k) p is = absurd (cc)
placed-by (Value-F.Agg kind xs) p is = absurd (cc)
placed-by (Value-F.Named n x) p is = absurd (cc)

placed : (x : Value) (p : ℕ) → place_in (out-Value x) ≡ Some p → x ≡ v.Inst p
placed x p is = sym (roll-out-Value x) ∙ ap roll-Value (placed-by (out-Value x) p is) ∙ v.rolls-Inst p

-- ---- values and their places

-- the instances among the values are those at the places
abbrev Same : List Value → List ℕ → Type 0
Same xs ps = (q : ℕ) → list_any (is_same (v.Inst q)) xs ≡ list_any (λ other. q == other) ps

same-more : (xs : List Value) (ps : List ℕ) (p : ℕ) → Same xs ps → Same (xs ++ v.Inst p ∷ []) (ps ++ p ∷ [])
same-more xs ps p same q =
    list_any-append (is_same (v.Inst q)) xs (v.Inst p ∷ []) ∙ (λ i. same q i || (same-Inst q p i || false)) ∙ sym (list_any-append (λ other. q == other) ps (p ∷ []))

or-false : (b : Bool) → (b || (false || false)) ≡ b
or-false true = refl
or-false false = refl

same-none-more : (xs : List Value) (ps : List ℕ) → Same xs ps → Same (xs ++ v.Indet ∷ []) ps
same-none-more xs ps same q =
    list_any-append (is_same (v.Inst q)) xs (v.Indet ∷ []) ∙ (λ i. same q i || (same-none q i || false)) ∙ or-false (list_any (λ other. q == other) ps)

-- whether values that follow others are all put to a SET
abbrev lacks : List Value → List Value → Bool
lacks before xs = nat_lt (length (set_union before xs)) (length before + length xs)

below : (n m k : ℕ) → n ≤ m → k ≡ m + 1 → nat_lt n k ≡ true
below n m k h e = grind (arith, nat_tests, h, e)

not-below : (n k : ℕ) → k ≡ n → nat_lt n k ≡ false
not-below n k e = grind (arith, nat_tests, e)

lacks-one : (before xs : List Value) (x : Value) (b : Bool) → list_any (is_same x) before ≡ b
    → lacks before (x ∷ xs) ≡ (b || lacks (before ++ x ∷ []) xs)
lacks-one before xs x true is =
    ap (λ (b : Bool). nat_lt (length (set_union (if b then before else before ++ x ∷ []) xs)) (length before + length (x ∷ xs))) is
    ∙ below (length (set_union before xs)) (length before + length xs) (length before + length (x ∷ xs)) (at-most xs before) (omega arith)
lacks-one before xs x false is =
    ap (λ (b : Bool). nat_lt (length (set_union (if b then before else before ++ x ∷ []) xs)) (length before + length (x ∷ xs))) is
    ∙ ap (nat_lt (length (set_union (before ++ x ∷ []) xs))) (let e : length before + length (x ∷ xs) ≡ length (before ++ x ∷ []) + length xs = omega (arith, length-append before (x ∷ [])) in e)

lacks-none : (before : List Value) (places ps : List ℕ) → Some [] ≡ Some ps → lacks before [] ≡ repeats places ps
lacks-none before places ps is =
    let e : [] ≡ ps = cc in
    not-below (length before) (length before + length {A = Value} []) (omega arith) ∙ ap (repeats places) e

module _ (count : ℕ) where
  abbrev all : List Value → List Value
  all = map (present count)

  abbrev Repeats : List Value → Type 0
  Repeats xs = (before : List Value) (places ps : List ℕ) → Same before places → places_in count xs ≡ Some ps → lacks before (all xs) ≡ repeats places ps

  repeats-of : (xs : List Value) (before : List Value) (places : List ℕ) (p : ℕ) (rest : Option (List ℕ)) (ps : List ℕ) (b : Bool)
      → Repeats xs → places_in count xs ≡ rest → nat_lt p count ≡ b → Same before places → option_map (and_place count p) rest ≡ Some ps
      → lacks before ((if b then v.Inst p else v.Indet) ∷ all xs) ≡ repeats places ps
  repeats-of xs before places p None ps b more is inside same so = absurd (cc)
  repeats-of xs before places p (Some found) ps true more is inside same so =
      let e : p ∷ found ≡ ps = sym (ap (λ (b : Bool). if b then p ∷ found else found) inside) ∙ (let f : and_place count p found ≡ ps = cc in f) in
      lacks-one before (all xs) (v.Inst p) (list_any (λ other. p == other) places) (same p)
      ∙ ap (λ (b : Bool). list_any (λ other. p == other) places || b) (more (before ++ v.Inst p ∷ []) (places ++ p ∷ []) found (same-more before places p same) is)
      ∙ ap (repeats places) e
  repeats-of xs before places p (Some found) ps false more is inside same so =
      let e : found ≡ ps = sym (ap (λ (b : Bool). if b then p ∷ found else found) inside) ∙ (let f : and_place count p found ≡ ps = cc in f) in
      lacks-one before (all xs) v.Indet false (none-among before)
      ∙ more (before ++ v.Indet ∷ []) places found (same-none-more before places same) is
      ∙ ap (repeats places) e

  repeats-from : (x : Value) (xs : List Value) (o : Option ℕ) → place_in (out-Value x) ≡ o → Repeats xs → Repeats (x ∷ xs)
  repeats-from x xs None none more before places ps same is = absurd (let e = ap (λ o. option_and_then (λ place. option_map (and_place count place) (places_in count xs)) o) none in cc)
  repeats-from x xs (Some p) some more before places ps same is =
      let e : option_map (and_place count p) (places_in count xs) ≡ Some ps =
      sym (ap (λ o. option_and_then (λ place. option_map (and_place count place) (places_in count xs)) o) some) ∙ is in
      ap (λ y. lacks before (y ∷ all xs)) (ap (present count) (placed x p some) ∙ present-Inst count p)
      ∙ repeats-of xs before places p (places_in count xs) ps (nat_lt p count) more refl refl same e

  all-repeats : (xs : List Value) → Repeats xs
  all-repeats [] = λ before places ps same is. lacks-none before places ps is
  all-repeats (x ∷ xs) = repeats-from x xs (place_in (out-Value x)) refl (all-repeats xs)

  -- of instances alone it is seen by their places
  pub twice-by-places : (xs : List Value) (ps : List ℕ) → places_in count xs ≡ Some ps → repeats [] ps ≡ has_twice (map (present count) xs)
  twice-by-places xs ps is =
      sym (all-repeats xs [] [] ps (λ q. refl) is)
      ∙ ap (nat_lt (length (set_union [] (all xs)))) (let e : length {A = Value} [] + length (all xs) ≡ length (all xs) = omega arith in e)

  -- where there are fewer than two values, none
  pub too-few : (xs : List Value) → length xs < 2 → false ≡ has_twice (map (present count) xs)
  too-few [] h = refl
  too-few (x ∷ []) h = refl
  too-few (x ∷ y ∷ xs) h = absurd (omega (arith, h))

-- ---- turn by turn

out-Inst : (p : ℕ) → place_in (out-Value (v.Inst p)) ≡ Some p
out-Inst p = ap (λ x. place_in (out-Value x)) (sym (v.rolls-Inst p)) ∙ ap place_in (out-roll-Value (Value-F.Inst p))

put-by : (count p : ℕ) (found : List ℕ) (rest : Option (List ℕ)) (b : Bool) → nat_lt p count ≡ b
    → option_map (λ places. found ++ places) (option_map (and_place count p) rest) ≡ option_map (λ places. (if b then found ++ p ∷ [] else found) ++ places) rest
put-by count p found None b is = refl
put-by count p found (Some places) true is = rw is (ap Some (sym (append_assoc found (p ∷ []) places)))
put-by count p found (Some places) false is = rw is refl

module _ (count : ℕ) (found : List ℕ) (xs : List Value) (i : ℕ) (x : Value) where
  pub place-step : (p : ℕ) → i < length xs → x ≡ get_or xs i x → x ≡ v.Inst p
      → option_map (λ places. found ++ places) (places_in count (drop i xs))
      ≡ option_map (λ places. (if nat_lt p count then found ++ p ∷ [] else found) ++ places) (places_in count (drop (i + 1) xs))
  place-step p h is inst =
      ap (λ ys. option_map (λ places. found ++ places) (places_in count ys)) (drop-read xs i x h is)
      ∙ ap (λ o. option_map (λ places. found ++ places) (option_and_then (λ place. option_map (and_place count place) (places_in count (drop (i + 1) xs))) o)) (ap (λ y. place_in (out-Value y)) inst ∙ out-Inst p)
      ∙ put-by count p found (places_in count (drop (i + 1) xs)) (nat_lt p count) refl

  none-placed : (y : Value-F Value) → ((p : ℕ) → roll-Value y ≡ v.Inst p → ⊥) → place_in y ≡ None
  none-placed (Value-F.Inst p) none = absurd (none p (v.rolls-Inst p))
  none-placed y none = refl

  -- another value
  pub place-other : i < length xs → x ≡ get_or xs i x → ((p : ℕ) → x ≡ v.Inst p → ⊥) → option_map (λ places. found ++ places) (places_in count (drop i xs)) ≡ None
  place-other h is none =
      ap (λ ys. option_map (λ places. found ++ places) (places_in count ys)) (drop-read xs i x h is)
      ∙ ap (λ o. option_map (λ places. found ++ places) (option_and_then (λ place. option_map (and_place count place) (places_in count (drop (i + 1) xs))) o)) (none-placed (out-Value x) (λ p e. none p (sym (roll-out-Value x) ∙ e)))

-- one number more
pub repeats-step : (ps : List ℕ) (i p : ℕ) → i < length ps → p ≡ get_or ps i p
    → repeats (take i ps) (drop i ps) ≡ (list_any (λ other. p == other) (take i ps) || repeats (take i ps ++ p ∷ []) (drop (i + 1) ps))
repeats-step ps i p h is = ap (repeats (take i ps)) (drop-read ps i p h is)

pub ruleset places = (twice-by-places, too-few)
