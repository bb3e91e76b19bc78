-- Instances of a population as they are written, model by model.
use Rattle.std.proofs.Common.{◌≡◌, ℕ, ◌+◌, List, [], ◌∷◌, ◌++◌, map, length, take, Some, refl, sym, ◌∙◌, ap, append-nil}
use Rattle.std.specs.Prelude.{slice_get}
use Rattle.std.proofs.lemmas.List.{length-map, map-append, take_more}
use Rattle.std.proofs.lemmas.List.Concat.{flat_map-append}
use Rattle.std.proofs.lemmas.Option.{get_or_from_slice_get, slice_get_within}
use Rattle.ex_schemas.specs.Schemas.{Checked}
use Rattle.ex_layouts.specs.Entities.{entities_of}
use Rattle.rp_content.specs.declared.instance.Instance.{Instance}
use Rattle.rp_population.specs.Populations.{Counted, Placed, placed, placed_all, population}
use Rattle.rp_positions.specs.Positions.{position_of, positioned}
use Rattle.rp_positions.specs.Seen.{all_seen_by}
use Rattle.rp_domain.specs.declared.instance.WrittenInstance.{WrittenInstance}
use Rattle.rp_meaning.specs.declared.schema.Schema.{Schema}
use Rattle.rp_meaning.specs.Reading.{instance_of}
use Rattle.rp_group_domain.specs.Models.{AreNamesOf, Names, all_written_in, written, written_before, written_in}

module _ (checked : Checked) (xs : List Placed) where
  one_written : (m : Counted) (n : Names) → AreNamesOf xs m n → (i : Instance) → written checked n i ≡ written_in checked xs (placed m i)
  one_written m n names i = λ j. record { entities = entities_of checked i.entities; values = map (positioned (λ name. names i name j)) i.values }

  pub model_written : (m : Counted) (n : Names) → AreNamesOf xs m n → (is : List Instance) → map (written checked n) is ≡ all_written_in checked xs (map (placed m) is)
  model_written m n names [] = refl
  model_written m n names (i ∷ is) = λ j. one_written m n names i j ∷ model_written m n names is j

  population_more : (ms : List Counted) (at : ℕ) (m : Counted) → slice_get ms at ≡ Some m → population (take (at + 1) ms) ≡ population (take at ms) ++ placed_all m
  population_more ms at m is =
      ap population (take_more ms at m (slice_get_within ms at m is) ∙ ap (λ x. take at ms ++ x ∷ []) (get_or_from_slice_get ms at m m is))
      ∙ flat_map-append placed_all (take at ms) (m ∷ [])
      ∙ ap (λ ys. population (take at ms) ++ ys) (append-nil (placed_all m))

  pub one_model_more : (ms : List Counted) (at : ℕ) (m : Counted) → slice_get ms at ≡ Some m → written_before checked xs ms at ++ all_written_in checked xs (placed_all m) ≡ written_before checked xs ms (at + 1)
  one_model_more ms at m is =
      sym (ap (all_written_in checked xs) (population_more ms at m is) ∙ map-append (written_in checked xs) (population (take at ms)) (placed_all m))

-- ---- as rules see them

seen_each : (schema : Schema) (checked : Checked) (xs : List Placed) (count : ℕ) (ys : List Placed)
    → map (λ i. instance_of schema count i.entities i.values) (all_written_in checked xs ys) ≡ map (λ x. instance_of schema count (entities_of checked x.instance.entities) (map (positioned (position_of xs x)) x.instance.values)) ys
seen_each schema checked xs count [] = refl
seen_each schema checked xs count (y ∷ ys) = ap (λ is. instance_of schema count (entities_of checked y.instance.entities) (map (positioned (position_of xs y)) y.instance.values) ∷ is) (seen_each schema checked xs count ys)

pub all_seen : (schema : Schema) (checked : Checked) (xs : List Placed) (is : List WrittenInstance) → is ≡ all_written_in checked xs xs
    → map (λ i. instance_of schema (length is) i.entities i.values) is ≡ all_seen_by schema checked xs
all_seen schema checked xs is same =
    (λ j. map (λ i. instance_of schema (length (same j)) i.entities i.values) (same j))
    ∙ seen_each schema checked xs (length (all_written_in checked xs xs)) xs
    ∙ ap (λ n. map (λ x. instance_of schema n (entities_of checked x.instance.entities) (map (positioned (position_of xs x)) x.instance.values)) xs) (length-map xs (written_in checked xs))
