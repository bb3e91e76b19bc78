-- What has names, put in the order of them.
use Rattle.std.proofs.Common.{◌≡◌, ◌≤◌, ℕ, true, false, ◌==◌, List, [], ◌∷◌, map, arith}
use Rattle.std.specs.Prelude.{fold, max}
use Rattle.std.specs.List.{AllByRecursion}
use Rattle.std.specs.Ordering.{is_gt, nat_cmp}
use Rattle.std.proofs.lemmas.Bool.{or_parts}
use Rattle.std.proofs.lemmas.Bool.Decides.{nat_tests}
use Rattle.plain_data.specs.Numbers.{is_among}
use Rattle.p21_instances.specs.Instances.{in_order, AreOnce}
use Rattle.p21_instances.proofs.ByName.{below}
use Rattle.p21_instances.proofs.SortedBy.{Rises, rises_in_order}
use Rattle.sorted_tables.specs.Table.{is_after, IsAscending}

higher : (m n : ℕ) → m ≤ n → (n == m) ≡ false → is_gt (nat_cmp n m) ≡ true
higher m n e apart = grind (arith, nat_tests)

module _ {X : Type 0} (name : X → ℕ) where
  all_higher : (x : X) (ys : List X) → AllByRecursion (λ y. name x ≤ name y) ys → is_among (map name ys) (name x) ≡ false → AllByRecursion (λ y. is_after nat_cmp name (name x) y ≡ true) ys
  all_higher x [] up new = tt
  all_higher x (y ∷ ys) up new =
      let apart = or_parts (name y == name x) (is_among (map name ys) (name x)) new in
      (higher (name x) (name y) up.0 apart.0, all_higher x ys up.1 apart.1)

  ascends : (xs : List X) → Rises name xs → AreOnce name xs → IsAscending nat_cmp name xs
  ascends [] up once = tt
  ascends (x ∷ xs) up once = (all_higher x xs up.0 once.0, ascends xs up.1 once.1)

  pub ordered : (xs : List X) → AreOnce name (in_order (below name) xs) → IsAscending nat_cmp name (in_order (below name) xs)
  ordered xs once = ascends (in_order (below name) xs) (rises_in_order name xs) once

  -- ---- the greatest name

  abbrev pub AreWithin : ℕ → List X → Type 0
  AreWithin most xs = AllByRecursion (λ x. name x ≤ most) xs

  pub within : (most n : ℕ) (xs : List X) → n ≤ most → AreWithin most xs → fold max n (map name xs) ≤ most
  within most n [] low all = low
  within most n (x ∷ xs) low all = let here : name x ≤ most = all.0 in within most (max n (name x)) xs (omega arith) all.1

  pub all_within : (most n : ℕ) (xs : List X) → fold max n (map name xs) ≤ most → (n ≤ most) × AreWithin most xs
  all_within most n [] low = (low, tt)
  all_within most n (x ∷ xs) low =
      let rest = all_within most (max n (name x)) xs low in
      let both : max n (name x) ≤ most = rest.0 in
      (omega arith, (omega arith, rest.1))

pub greatest_from : (n m : ℕ) (xs : List ℕ) → n ≤ m → fold max n xs ≤ fold max m xs
greatest_from n m [] less = less
greatest_from n m (x ∷ xs) less = greatest_from (max n x) (max m x) xs (omega arith)
