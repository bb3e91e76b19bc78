-- Supertype expressions as nodes: what is taken of them, told by the places at which entities stand.
use Rattle.std.specs.Prelude.{ℕ, zero, not, ◌+◌, ◌==◌, nat_lt, if◌then◌else◌, List, [], ◌∷◌, length, map, filter, Option, slice_get}
use Rattle.std.specs.List.{flat_map}
use Rattle.std.specs.Option.{option_flatten, option_map}
use Rattle.ex_named.specs.declared.declaration.NamedEntity.{NamedEntity}
use Rattle.ex_named.specs.declared.declaration.NamedSupertype.{NamedSupertype}
use Rattle.ex_named.specs.declared.declaration.NamedSupertype.TheFolds.{fold-NamedSupertype}
use Rattle.ex_named.specs.declared.declaration.NamedSupertype.TheOpen.{NamedSupertype-F}
use Rattle.ex_subtypes.specs.declared.choices.Choice.{Choice}
use Rattle.ex_subtypes.specs.declared.choices.Choice.TheVariants.{Nothing, Combination, Neither}
use Rattle.ex_subtypes.specs.declared.choices.Connective.{Connective}
use Rattle.ex_subtypes.specs.declared.choices.Connective.TheVariants.{OneOf, And, AndOr}
use Rattle.ex_subtypes.specs.declared.constraints.Constraint.{Constraint}
use Rattle.ex_subtypes.specs.declared.nodes.Node.{Node}
use Rattle.ex_subtypes.specs.declared.nodes.Node.TheFolds.{fold-Node}
use Rattle.ex_subtypes.specs.declared.nodes.Node.TheOpen.{Node-F}
use Rattle.ex_subtypes.specs.declared.nodes.Node.TheVariants as n
use Rattle.ex_subtypes.specs.Combinations.{joined}
use Rattle.ex_subtypes.specs.Walks.{join_choices}

-- ---- an expression as a node

-- What becomes of an expression: the entities that it names, in order, and the node, where the first of them has a place.
-- The others have the places behind it, one after the other.
pub record Placed : Type 0 where
  pub named : List ℕ
  pub node : ℕ → Node

-- of each part the place behind its last entity
abbrev pub ends_from : ℕ → List Placed → List ℕ
ends_from start [] = []
ends_from start (p ∷ ps) = (start + length p.named) ∷ ends_from (start + length p.named) ps

abbrev pub nodes_from : ℕ → List Placed → List Node
nodes_from start [] = []
nodes_from start (p ∷ ps) = p.node start ∷ nodes_from (start + length p.named) ps

abbrev pub all_named : List Placed → List ℕ
all_named ps = flat_map (λ p. p.named) ps

abbrev pub several : Connective → List Placed → Placed
several way ps = record { named = all_named ps; node = λ start. n.Joined way (ends_from start ps) (nodes_from start ps) }

abbrev pub placed_layer : NamedSupertype-F Placed → Placed
placed_layer (NamedSupertype-F.Entity e at) = record { named = e ∷ []; node = λ start. n.Entity }
placed_layer (NamedSupertype-F.OneOf parts) = several OneOf parts
placed_layer (NamedSupertype-F.And parts) = several And parts
placed_layer (NamedSupertype-F.AndOr parts) = several AndOr parts

unfoldable pub placed : NamedSupertype → Placed
placed = fold-NamedSupertype Placed placed_layer

-- what is kept of an expression
abbrev pub kept : NamedSupertype → Constraint
kept x = record { node = (placed x).node zero; places = (placed x).named }

-- of each entity what is kept of its expression
abbrev pub all_kept : List NamedEntity → List (Option Constraint)
all_kept entities = map (λ e. option_map kept e.constraint) entities

-- what is kept of the expression of one of them
abbrev pub kept_at : List (Option Constraint) → ℕ → Option Constraint
kept_at constraints e = option_flatten (slice_get constraints e)

-- ---- what is taken of a node

-- those of the places that come before an end, and the others
abbrev pub before : ℕ → List ℕ → List ℕ
before end places = filter (λ p. nat_lt p end) places

abbrev pub behind : ℕ → List ℕ → List ℕ
behind end places = filter (λ p. not (nat_lt p end)) places

-- what is taken of each part, where the places before its end fall to it, and the others to those behind it
abbrev pub dealt : List (List ℕ → Choice) → List ℕ → List ℕ → List Choice
dealt [] ends places = []
dealt (part ∷ parts) [] places = part [] ∷ dealt parts [] places
dealt (part ∷ parts) (end ∷ ends) places = part (before end places) ∷ dealt parts ends (behind end places)

abbrev pub one_taken : List ℕ → Choice
one_taken [] = Nothing
one_taken (p ∷ ps) = Combination

abbrev pub taken_layer : Node-F (List ℕ → Choice) → List ℕ → Choice
taken_layer Node-F.Entity places = one_taken places
taken_layer (Node-F.Joined way ends parts) places = joined Nothing (join_choices way) (dealt parts ends places)

-- what is taken of a node, where entities stand at these places of it
unfoldable pub taken_at : Node → List ℕ → Choice
taken_at = fold-Node (List ℕ → Choice) taken_layer

-- ---- by a count of the parts that have something

abbrev pub of_some : Connective → ℕ → ℕ → Choice
of_some OneOf count parts = if nat_lt 1 count then Neither else Combination
of_some And count parts = if nat_lt count parts then Neither else Combination
of_some AndOr count parts = Combination

-- what is taken of so many parts, where it is a combination of as many of them as the count says, and nothing of the others
abbrev pub by_count : Connective → ℕ → ℕ → Choice
by_count way count parts = if count == 0 then Nothing else of_some way count parts

-- the count, with one part more
abbrev pub with_part : ℕ → Choice → ℕ
with_part count Nothing = count
with_part count Combination = count + 1
with_part count Neither = count
