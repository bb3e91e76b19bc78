-- The values of slots by what their types come to are those by their declarations.
use Rattle.std.proofs.Common.{◌≡◌, ℕ, Bool, List, [], ◌∷◌, map, Ok, refl}
use Rattle.std.specs.List.{zip}
use Rattle.ex_layouts.specs.Layouts.{read_slot}
use Rattle.ex_slots.specs.Slots.{Slot}
use Rattle.ex_schemas.specs.Schemas.{Checked}
use Rattle.p21_tree.specs.declared.instance.Record.{Record}
use Rattle.p21_tree.specs.declared.value.Value.{Value as SpelledValue}
use Rattle.p21_values.specs.Taking.{bound}
use Rattle.p21_mappings.specs.Instances.{and_then, each, part, value}
use Rattle.p21_mappings.specs.ReadSlots.{record_values, slot_value}

module _ (schema : Checked) (is_defined : ℕ → Bool) where
  same_value : (s : Slot) (x : SpelledValue) → slot_value schema is_defined (read_slot schema s, x) ≡ value schema is_defined (s, x)
  unfolding bound
  same_value s x = refl

  pub same_values : (ss : List Slot) (xs : List SpelledValue) → each (slot_value schema is_defined) (zip (map (read_slot schema) ss) xs) ≡ each (value schema is_defined) (zip ss xs)
  same_values [] xs = refl
  same_values (s ∷ ss) [] = refl
  same_values (s ∷ ss) (x ∷ xs) = λ i. and_then (same_value s x i) (λ y. and_then (same_values ss xs i) (λ ys. Ok (y ∷ ys)))

  pub same_records : (sss : List (List Slot)) (rs : List Record) → each (record_values schema is_defined) (zip (map (map (read_slot schema)) sss) rs) ≡ each (part schema is_defined) (zip sss rs)
  same_records [] rs = refl
  same_records (ss ∷ sss) [] = refl
  same_records (ss ∷ sss) (r ∷ rs) = λ i. and_then (same_values ss r.values i) (λ y. and_then (same_records sss rs i) (λ ys. Ok (y ∷ ys)))
