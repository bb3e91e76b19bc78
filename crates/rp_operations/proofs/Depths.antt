-- How deep values are, and that an equality of values of some depth is that of all greater ones.
use Rattle.std.proofs.Common.{◌≡◌, ℕ, zero, suc, ◌+◌, ◌≤◌, Bool, not, ◌==◌, ◌||◌, ◌&&◌, if◌then◌else◌, cond, List, [], ◌∷◌, ◌++◌, map, length, refl, sym, ◌∙◌, ap, subst, arith}
use Rattle.std.proofs.Math.Nat.{le-max_left, le-max_right}
use Rattle.std.specs.List.{AllByRecursion, list_any, list_all, fold}
use Rattle.rp_numbers.specs.Logical.{conjunction, of_test, is_true}
use Rattle.rp_numbers.specs.declared.Logical.{Logical}
use Rattle.rp_numbers.specs.declared.Logical.TheVariants.{False, Unknown}
use Rattle.rp_operations.specs.Seen.{Seen, Aggregate, with_seen, seen, is_indeterminate, greatest, depth_layer, depth}
use Rattle.rp_operations.specs.Equality.{equal_in_places, occurrences, equal_elements, equal_seen, equal_within, equality, is_bag_or_set}
use Rattle.rp_value.specs.declared.value.Value.{Value}
use Rattle.rp_value.specs.declared.value.Value.TheFolds.{fold-roll-Value, ind-Value, map-Value}
use Rattle.rp_value.specs.declared.value.Value.TheOpen.{Value-F}
use Rattle.rp_value.specs.declared.value.Value.TheViews.{roll-Value}
use Rattle.rp_operations.proofs.Sights.{both, all_itself, seen-rolls}

-- ---- depths

abbrev pub depths : List Value → ℕ
depths xs = greatest (map depth xs)

abbrev pub depth_seen : Seen → ℕ
depth_seen (Aggregate kind xs) = suc (depths xs.items)
depth_seen s = 0

abbrev IsDeep : Value → Type 0
IsDeep x = depth x ≡ depth_seen (seen x)

abbrev Deep : Type 0
Deep = (x : Value) × IsDeep x

layer_deep : (y : Value-F Deep) → depth_layer (map-Value Value ℕ depth (map-Value Deep Value (λ p. p.0) y)) ≡ depth_seen (with_seen (map-Value Value (Value × Seen) both (map-Value Deep Value (λ p. p.0) y))).1
unfolding seen
layer_deep Value-F.Indet = refl
layer_deep (Value-F.Int n) = refl
layer_deep (Value-F.Dec d) = refl
layer_deep (Value-F.Str text) = refl
layer_deep (Value-F.Bin bits) = refl
layer_deep (Value-F.Log x) = refl
layer_deep (Value-F.Item n place) = refl
layer_deep (Value-F.Inst name) = refl
layer_deep (Value-F.Agg kind elements) = λ i. suc (depths (sym (all_itself (map (λ p. p.0) elements.items)) i))
layer_deep (Value-F.Named n p) = p.1

pub depth-seen : (x : Value) → IsDeep x
unfolding depth
depth-seen = ind-Value IsDeep (λ x y is.
    subst (λ z. depth (roll-Value z) ≡ depth_seen (seen (roll-Value z))) is
    (fold-roll-Value ℕ depth_layer (map-Value Deep Value (λ p. p.0) y) ∙ layer_deep y ∙ ap depth_seen (seen-rolls (map-Value Deep Value (λ p. p.0) y))))

abbrev pub AtMost : ℕ → List Value → Type 0
AtMost n = AllByRecursion (λ x. depth x ≤ n)

pub at_most : (n : ℕ) (xs : List Value) → depths xs ≤ n → AtMost n xs
at_most n [] h = tt
at_most n (x ∷ xs) h =
    let left = le-max_left (depth x) (depths xs) in
    let right = le-max_right (depth x) (depths xs) in
    (omega arith, at_most n xs (omega arith))

-- ---- equalities that agree on some values agree on lists of them

module _ (P : Value → Type 0) (e d : Value → Value → Logical) (agree : (x y : Value) → P x → P y → e x y ≡ d x y) where
  both_all : (xs ys : List Value) → AllByRecursion P xs → AllByRecursion P ys → AllByRecursion P (xs ++ ys)
  both_all [] ys p q = q
  both_all (x ∷ xs) ys p q = (p.0, both_all xs ys p.1 q)

  places : (xs ys : List Value) → AllByRecursion P xs → AllByRecursion P ys → equal_in_places e xs ys ≡ equal_in_places d xs ys
  places [] ys p q = refl
  places (x ∷ xs) [] p q = refl
  places (x ∷ xs) (y ∷ ys) p q = λ i. conjunction (agree x y p.0 q.0 i) (places xs ys p.1 q.1 i)

  counted : (x : Value) → P x → (n : ℕ) (ys : List Value) → AllByRecursion P ys
      → fold (λ a y. a + cond (is_true (e y x)) 1 0) n ys ≡ fold (λ a y. a + cond (is_true (d y x)) 1 0) n ys
  counted x p n [] q = refl
  counted x p n (y ∷ ys) q =
      (λ i. fold (λ a z. a + cond (is_true (e z x)) 1 0) (n + cond (is_true (agree y x q.0 p i)) 1 0) ys)
      ∙ counted x p (n + cond (is_true (d y x)) 1 0) ys q.1

  equally : (xs ys zs : List Value) → AllByRecursion P xs → AllByRecursion P ys → AllByRecursion P zs
      → list_all (λ z. occurrences e z xs == occurrences e z ys) zs ≡ list_all (λ z. occurrences d z xs == occurrences d z ys) zs
  equally xs ys [] p q r = refl
  equally xs ys (z ∷ zs) p q r = λ i. (counted z r.0 0 xs p i == counted z r.0 0 ys q i) && equally xs ys zs p q r.1 i

  pub elements_agree : (are_placed : Bool) (xs ys : List Value) → AllByRecursion P xs → AllByRecursion P ys → equal_elements e are_placed xs ys ≡ equal_elements d are_placed xs ys
  elements_agree are_placed xs ys p q i =
      if not (length xs == length ys) then False
      else if are_placed then places xs ys p q i
      else if list_any (λ x. is_indeterminate (seen x)) (xs ++ ys) then Unknown
      else of_test (equally xs ys (xs ++ ys) p q (both_all xs ys p q) i)

-- ---- depths that are great enough

module _ (scalars : Seen → Seen → Logical) where
  seen_agree : (n : ℕ) (e d : Value → Value → Logical) → ((x y : Value) → depth x ≤ n → depth y ≤ n → e x y ≡ d x y)
      → (s t : Seen) → depth_seen s ≤ suc n → depth_seen t ≤ suc n → equal_seen scalars e s t ≡ equal_seen scalars d s t
  seen_agree n e d agree (Aggregate kind xs) (Aggregate other ys) h k =
      elements_agree (λ x. depth x ≤ n) e d agree (not (is_bag_or_set kind || is_bag_or_set other)) xs.items ys.items
      (at_most n xs.items (omega arith)) (at_most n ys.items (omega arith))
  seen_agree n e d agree s t h k = refl

  flat : (e : Value → Value → Logical) (s t : Seen) → depth_seen s ≤ 0 → scalars s t ≡ equal_seen scalars e s t
  flat e (Aggregate kind xs) t h = absurd (omega arith)
  flat e s t h = refl

  deeper : (n k : ℕ) (x y : Value) → depth x ≤ n → depth y ≤ n → equal_within scalars n x y ≡ equal_within scalars (k + n) x y
  deeper zero zero x y h g = refl
  deeper zero (suc k) x y h g =
      let sum : suc k ≡ suc k + 0 = omega arith in
      flat (equal_within scalars k) (seen x) (seen y) (subst (λ m. m ≤ 0) (depth-seen x) h) ∙ ap (λ m. equal_within scalars m x y) sum
  deeper (suc n) k x y h g =
      let sum : suc (k + n) ≡ k + suc n = omega arith in
      seen_agree n (equal_within scalars n) (equal_within scalars (k + n)) (deeper n k) (seen x) (seen y)
      (subst (λ m. m ≤ suc n) (depth-seen x) h) (subst (λ m. m ≤ suc n) (depth-seen y) g)
      ∙ ap (λ m. equal_within scalars m x y) sum

  enough : (n : ℕ) (x y : Value) → depth x ≤ n → depth y ≤ n → equal_within scalars n x y ≡ equality scalars x y
  unfolding equality
  enough n x y h g =
      let m = depth x + depth y in
      let sum : m + n ≡ n + m = omega arith in
      deeper n m x y h g ∙ ap (λ k. equal_within scalars k x y) sum ∙ sym (deeper m n x y (omega arith) (omega arith))

  pub equality-seen : (x y : Value) → equal_seen scalars (equality scalars) (seen x) (seen y) ≡ equality scalars x y
  equality-seen x y =
      let n = depth x + depth y in
      sym (seen_agree n (equal_within scalars n) (equality scalars) (enough n) (seen x) (seen y)
      (subst (λ m. m ≤ suc n) (depth-seen x) (omega arith)) (subst (λ m. m ≤ suc n) (depth-seen y) (omega arith)))
      ∙ enough (suc n) x y (omega arith) (omega arith)
