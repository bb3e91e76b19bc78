-- The types of the elements of the aggregates that a list may be of, level by level.
use Rattle.std.specs.Prelude.{◌≡◌, ⊤, ℕ, List, [], ◌∷◌, map, Option, Some, None, slice_get}
use Rattle.std.specs.List.{filter_map}
use Rattle.std.specs.Option.{option_map, option_to_list}
use Rattle.ex_named.specs.declared.declaration.NamedType.{NamedType}
use Rattle.ex_selects.specs.declared.ends.Target as code_target
use Rattle.ex_selects.specs.declared.levels.Candidate.{Candidate}
use Rattle.ex_selects.specs.declared.levels.Level.{Level}
use Rattle.ex_selects.specs.Ends.{Base, Aggregate, Select, Target, base_of, target, choices}
use Rattle.ex_selects.specs.Seen.{seen, seen_target}

-- what stands at a place stays there
abbrev pub Keeps : List code_target.Target → List code_target.Target → Type 0
Keeps before after = (place : ℕ) (t : Target) → slice_get (map seen_target before) place ≡ Some t → slice_get (map seen_target after) place ≡ Some t

-- ---- the aggregates that a list may be of

-- one of them: the defined type that it is, where a SELECT chooses it, and the type of its elements
pub record PossibleAggregate : Type 0 where
  pub number : Option ℕ
  pub target : Target

-- these aggregates, with their elements' types among those
abbrev pub IsGroup : List code_target.Target → List Candidate → List PossibleAggregate → Type 0
IsGroup targets [] [] = ⊤
IsGroup targets (c ∷ group) (a ∷ aggregates) =
    (c.number ≡ a.number) × ((slice_get (map seen_target targets) c.place ≡ Some a.target) × IsGroup targets group aggregates)
IsGroup targets _ _ = ⊥

-- whose elements a further level below these is of
abbrev pub last_asking : List code_target.Target → List Level → List code_target.Target
last_asking asking [] = asking
last_asking asking (level ∷ below) = last_asking level.targets.items below

module _ (types : List NamedType) where
  -- the type of an aggregate's elements
  abbrev pub element : Base → Option Target
  element (Aggregate kind low inner) = Some (target types inner)
  element _ = None

  abbrev pub aggregate_at : Base → Option ℕ → Option PossibleAggregate
  aggregate_at base number = option_map (λ t. record { number = number; target = t }) (element base)

  abbrev pub chosen_aggregate : ℕ → Option PossibleAggregate
  chosen_aggregate number = aggregate_at (base_of types number) (Some number)

  -- the aggregates that a list of this type may be of
  abbrev pub aggregates : Base → List PossibleAggregate
  aggregates (Select number) = filter_map chosen_aggregate (choices types number)
  aggregates base = option_to_list (aggregate_at base None)

  -- of each of these types its group
  abbrev pub AreGroups : List code_target.Target → List code_target.Target → List (List Candidate) → Type 0
  AreGroups targets [] [] = ⊤
  AreGroups targets (t ∷ ts) (g ∷ gs) = IsGroup targets g (aggregates (seen t.base)) × AreGroups targets ts gs
  AreGroups targets _ _ = ⊥

  abbrev pub IsLevel : List code_target.Target → Level → Type 0
  IsLevel asking level = AreGroups level.targets.items asking level.groups.items

  -- each asks for those of the one above it
  abbrev pub AreLevels : List code_target.Target → List Level → Type 0
  AreLevels asking [] = ⊤
  AreLevels asking (level ∷ below) = IsLevel asking level × AreLevels level.targets.items below
