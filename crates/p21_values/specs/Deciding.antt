-- Whether types take a value, without the value that they take.
use Rattle.std.specs.Prelude.{◌≡◌, ℕ, Bool, false, ◌&&◌, ◌||◌, List, [], ◌∷◌, ◌++◌, map, filter, take, length, Option, Some, None, is_some, slice_get}
use Rattle.std.specs.List.{flat_map, list_all}
use Rattle.std.specs.Option.{option_map_or}
use Rattle.plain_data.specs.Numbers.{is_among}
use Rattle.ex_named.specs.declared.declaration.NamedType.{NamedType}
use Rattle.p21_tree.specs.declared.value.Value as tree
use Rattle.p21_tree.specs.declared.value.Value.TheOpen.{Value-F}
use Rattle.rp_value.specs.declared.value.Value.{Value}
use Rattle.ex_selects.specs.declared.sorts.Class.{Class}
use Rattle.ex_selects.specs.declared.sorts.Class.TheVariants as class
use Rattle.ex_selects.specs.declared.levels.Candidate.{Candidate}
use Rattle.ex_selects.specs.declared.levels.Level.{Level}
use Rattle.ex_selects.specs.Ends.{Base, Select, Target, choices}
use Rattle.ex_selects.specs.Kept.{single}
use Rattle.ex_selects.specs.Seen.{seen_target}
use Rattle.p21_values.specs.Taking.{Meaning, place, meaning, is_that}

abbrev pub takes : Meaning → Target → Bool
takes m t = is_some (place m t)

-- whether the type takes each
abbrev pub takes_each : List Meaning → Target → Bool
takes_each ms t = list_all (λ m. takes m t) ms

-- both, one by one
abbrev pub both : List Bool → List Bool → List Bool
both (a ∷ more) (b ∷ bs) = (a && b) ∷ both more bs
both _ _ = []

-- what stands at a place; false beyond
abbrev pub at : List Bool → ℕ → Bool
at bs place = option_map_or (λ b. b) (slice_get bs place) false

-- the only one of a group whose elements' type is taken
abbrev pub only_candidate : List Candidate → List Bool → Option Candidate
only_candidate group taken = single (filter (λ c. at taken c.place) group)

abbrev pub StartsWith : List Bool → List Bool → Type 0
StartsWith front rows = take (length front) rows ≡ front

-- the rows of a value, from those of a list
abbrev pub rows_by : Value-F tree.Value → (List tree.Value → List Bool) → List Bool
rows_by (Value-F.List values) rows = rows values
rows_by _ rows = []

-- the class of the types that may take a token
abbrev pub class_by : Value-F tree.Value → Class
class_by (Value-F.Item token) = class.Items
class_by _ = class.Plain

abbrev pub class_of : tree.Value → Class
class_of x = class_by (tree.out-Value x)

module _ (types : List NamedType) where
  -- ---- values that hold no others

  abbrev pub alone_by : Value-F tree.Value → (Base → Option Value) → Base → Option Value
  alone_by (Value-F.List values) plain = λ base. None
  alone_by form plain = plain

  -- what a type that is no SELECT takes of a value without a keyword, where that is no list
  abbrev pub alone : tree.Value → Base → Option Value
  alone x = alone_by (tree.out-Value x) (meaning types x).plain

  abbrev pub takes_alone_by : Value-F tree.Value → (Target → Bool) → Target → Bool
  takes_alone_by (Value-F.List values) takes = λ t. false
  takes_alone_by (Value-F.Typed keyword value) takes = λ t. false
  takes_alone_by form takes = takes

  -- whether a type takes a value, where that holds no others
  abbrev pub takes_alone : tree.Value → Target → Bool
  takes_alone x = takes_alone_by (tree.out-Value x) (takes (meaning types x))

  -- ---- lists

  -- which of a level's types take each of the values
  abbrev pub row : Level → List tree.Value → List Bool
  row level values = map (λ t. takes_each (map (meaning types) values) (seen_target t)) level.targets.items

  -- the rows of a list, and then those of its values
  unfoldable pub rows_of_list : List Level → List tree.Value → List Bool
  rows_of_list [] values = []
  rows_of_list (level ∷ below) values = row level values ++ flat_map (λ x. rows_by (tree.out-Value x) (rows_of_list below)) values

  abbrev pub rows : List Level → tree.Value → List Bool
  rows levels x = rows_by (tree.out-Value x) (rows_of_list levels)

  -- ---- keywords

  abbrev pub chooses : ℕ → Base → Bool
  chooses number (Select select) = is_among (choices types select) number
  chooses number _ = false

  -- whether a value under the name of a type may be of this one
  abbrev pub may_name : Option ℕ → Target → Bool
  may_name None t = false
  may_name (Some number) t = is_that types t.name number || chooses number t.base
