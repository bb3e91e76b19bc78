-- What lists refer to, and whether they have a `*`.
use Rattle.std.proofs.Common.{◌≡◌, ℕ, Bool, ◌||◌, List, [], ◌∷◌, map, refl, sym, ◌∙◌, ap}
use Rattle.std.proofs.lemmas.List.Folds.{flat_map-map}
use Rattle.std.specs.List.{flat_map, list_any}
use Rattle.p21_tree.specs.declared.value.Value.{Value}
use Rattle.p21_tree.specs.declared.value.Value.TheFolds.{fold-roll-Value}
use Rattle.p21_tree.specs.declared.value.Value.TheOpen.{Value-F}
use Rattle.p21_tree.specs.declared.value.Value.TheVariants as v
use Rattle.p21_mappings.specs.Instances.{star_layer, has_star}
use Rattle.p21_instances.specs.Instances.{referred, references}

pub references-list : (x : Value) (values : List Value) → x ≡ v.List values → references x ≡ flat_map references values
references-list x values is = ap references is ∙ ap references (sym (v.rolls-List values)) ∙ fold-roll-Value (List ℕ) referred (Value-F.List values) ∙ flat_map-map (λ found. found) references values

any_mapped : {X : Type 0} (f : X → Bool) (xs : List X) → list_any (λ b. b) (map f xs) ≡ list_any f xs
any_mapped f [] = refl
any_mapped f (x ∷ xs) = ap (λ b. f x || b) (any_mapped f xs)

pub stars-list : (x : Value) (values : List Value) → x ≡ v.List values → has_star x ≡ list_any has_star values
stars-list x values is = ap has_star is ∙ ap has_star (sym (v.rolls-List values)) ∙ fold-roll-Value Bool star_layer (Value-F.List values) ∙ any_mapped has_star values
