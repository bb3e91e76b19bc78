-- The models that count in a group, in the order of all models.
use Rattle.std.proofs.Common.{◌≡◌, Bool, true, false, List, [], ◌∷◌, map, refl}
use Rattle.std.specs.Prelude.{filter, if◌then◌else◌}
use Rattle.std.specs.List.{AllByRecursion}
use Rattle.sorted_tables.specs.Table.{is_after, IsAscending}
use Rattle.rp_rows.specs.Rows.{key_cmp, row_key, Model}
use Rattle.rp_population.specs.Populations.{Counted}
use Rattle.rp_positions.specs.Positions.{counted_key}
use Rattle.rp_plain.specs.Readers.{as_counted}

-- what holds of each model that passes holds of those that count
pub all_counted : (P : Counted → Type 0) (q : Model → Bool) (ms : List Model) → AllByRecursion (λ (m : Model). q m ≡ true → P (as_counted m)) ms → AllByRecursion P (map as_counted (filter q ms))
all_counted P q [] all = tt
all_counted P q (m ∷ ms) all = by (q m) refl (all_counted P q ms all.1)
  where
    by : (t : Bool) → q m ≡ t → AllByRecursion P (map as_counted (filter q ms)) → AllByRecursion P (map as_counted (if t then m ∷ filter q ms else filter q ms))
    by true passes rest = (all.0 passes, rest)
    by false fails rest = rest

whenever : (P : Counted → Type 0) (q : Model → Bool) (ms : List Model) → AllByRecursion (λ (m : Model). P (as_counted m)) ms → AllByRecursion (λ (m : Model). q m ≡ true → P (as_counted m)) ms
whenever P q [] all = tt
whenever P q (m ∷ ms) all = ((λ passes. all.0), whenever P q ms all.1)

-- and they stand in the same order
pub counted_ascending : (q : Model → Bool) (ms : List Model) → IsAscending key_cmp row_key ms → IsAscending key_cmp counted_key (map as_counted (filter q ms))
counted_ascending q [] order = tt
counted_ascending q (m ∷ ms) order = by (q m) (counted_ascending q ms order.1)
  where
    by : (t : Bool) → IsAscending key_cmp counted_key (map as_counted (filter q ms)) → IsAscending key_cmp counted_key (map as_counted (if t then m ∷ filter q ms else filter q ms))
    by true rest = (all_counted (λ (x : Counted). is_after key_cmp counted_key (row_key m) x ≡ true) q ms (whenever (λ (x : Counted). is_after key_cmp counted_key (row_key m) x ≡ true) q ms order.0), rest)
    by false rest = rest
