-- Instances that are put in the order of their names stand there each once.
use Rattle.std.proofs.Common.{◌≡◌, ◌≤◌, ℕ, Bool, true, false, ◌==◌, List, [], ◌∷◌, map, ◌∙◌, arith}
use Rattle.std.specs.List.{AllByRecursion, list_any}
use Rattle.std.specs.Ordering.{is_gt, nat_cmp}
use Rattle.std.proofs.lemmas.Bool.{or_parts}
use Rattle.std.proofs.lemmas.Bool.Decides.{nat_tests}
use Rattle.plain_data.specs.Numbers.{is_among}
use Rattle.p21_instances.specs.Instances.{in_order, AreOnce, has_twice}
use Rattle.p21_instances.proofs.ByName.{below, once-in_order}
use Rattle.p21_instances.proofs.SortedBy.{Rises, rises_in_order}
use Rattle.p21_instances.proofs.SortedNames.{is_one, among_turns}
use Rattle.sorted_tables.specs.Table.{is_after, IsAscending}

higher : (m n : ℕ) → m ≤ n → (n == m) ≡ false → is_gt (nat_cmp n m) ≡ true
higher m n e apart = grind (arith, nat_tests)

module _ {X : Type 0} (name : X → ℕ) where
  all_higher : (x : X) (ys : List X) → AllByRecursion (λ y. name x ≤ name y) ys → is_among (map name ys) (name x) ≡ false → AllByRecursion (λ y. is_after nat_cmp name (name x) y ≡ true) ys
  all_higher x [] up new = tt
  all_higher x (y ∷ ys) up new =
      let apart = or_parts (name y == name x) (is_among (map name ys) (name x)) new in
      (higher (name x) (name y) up.0 apart.0, all_higher x ys up.1 apart.1)

  ascends : (xs : List X) → Rises name xs → AreOnce name xs → IsAscending nat_cmp name xs
  ascends [] up once = tt
  ascends (x ∷ xs) up once = (all_higher x xs up.0 once.0, ascends xs up.1 once.1)

  pub ordered : (xs : List X) → AreOnce name (in_order (below name) xs) → IsAscending nat_cmp name (in_order (below name) xs)
  ordered xs once = ascends (in_order (below name) xs) (rises_in_order name xs) once

  pub ordered_once : (xs : List X) → AreOnce name xs → IsAscending nat_cmp name (in_order (below name) xs)
  ordered_once xs once = ordered xs (once-in_order name xs once)

  -- where no name stands twice
  pub once_named : (xs : List X) → has_twice is_one (map name xs) ≡ false → AreOnce name xs
  once_named [] once = tt
  once_named (x ∷ xs) once =
      let parts = or_parts (list_any (is_one (name x)) (map name xs)) (has_twice is_one (map name xs)) once in
      (among_turns (map name xs) (name x) ∙ parts.0, once_named xs parts.1)
