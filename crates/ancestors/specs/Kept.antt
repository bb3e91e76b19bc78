-- What is kept to answer who stands above whom.
use Rattle.std.specs.Prelude.{◌≡◌, ℕ, ◌&&◌, ◌==◌, nat_lt, Bool, IsTrue, length, List, [], Option, None, Some, if◌then◌else◌}
use Rattle.std.specs.Borrow.{Bor}
use Rattle.plain_data.specs.Numbers.{is_among}
use Rattle.graphs.specs.declared.walks.Trace.{Trace}
use Rattle.graphs.specs.Graphs.{supertypes, is_ancestor, family}
use Rattle.ancestors.specs.declared.trees.Tree.{Tree}
use Rattle.ancestors.specs.declared.trees.Trees.{Trees}
use Rattle.ancestors.specs.Labels.{IsSure}

-- the second graph has of each member of the first its direct subtypes
abbrev pub IsTurned : List (List ℕ) → List (List ℕ) → Type 0
IsTurned graph below = (d e : ℕ) → is_among (supertypes below d) e ≡ (nat_lt d (length graph) && is_among (supertypes graph e) d)

-- what a tree is said to be relied on for
abbrev pub IsSureTree : List (List ℕ) → List Trace → Tree → Type 0
IsSureTree graph traces tree = IsTrue tree.is_sure → IsSure graph traces tree.labels.items

pub record IsKept (trees : Trees) : Type 0 where
  pub turned : IsTurned trees.graph.items trees.below.items
  pub one : IsSureTree trees.graph.items trees.traces.items trees.first
  pub other : IsSureTree trees.graph.items trees.traces.items trees.second

-- the graph, or the graph turned round
abbrev pub walked : Trees → Bool → List (List ℕ)
walked trees is_down = if is_down then trees.below.items else trees.graph.items

-- the numbers are the ancestors of a member among the members
abbrev pub AreAbove : List (List ℕ) → ℕ → List ℕ → Type 0
AreAbove graph member above = (a : ℕ) → is_among above a ≡ (nat_lt a (length graph) && is_ancestor graph member a)

-- the members of a family: none where there is no graph
abbrev pub family_of : Option (Bor (List (List ℕ))) → ℕ → List ℕ
family_of None member = []
family_of (Some graph) member = family graph.now member

-- whether it is a member, and nobody stands above it
abbrev pub is_alone : List (List ℕ) → ℕ → Bool
is_alone graph member = nat_lt member (length graph) && (length (supertypes graph member) == 0)
