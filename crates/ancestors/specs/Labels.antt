-- What is tested of the labels of a graph's rings.
use Rattle.std.specs.Prelude.{ℕ, zero, ◌<◌, Bool, ◌||◌, ◌&&◌, ◌==◌, nat_lt, leb, IsTrue, length, List, slice_index_or}
use Rattle.std.specs.List.{list_all}
use Rattle.plain_data.specs.Numbers.{is_among}
use Rattle.graphs.specs.declared.walks.Trace.{Trace}
use Rattle.graphs.specs.declared.walks.TheConstants.{NONE}
use Rattle.ancestors.specs.declared.ways.Label.{Label}
use Rattle.graphs.specs.Graphs.{supertypes, is_ancestor}
use Rattle.graphs.specs.Traces.{trace_of, is_certain}

unfoldable pub unlabelled : ℕ → Label
unlabelled k = record { up = k; by = k; to = k; jump = k; depth = zero; low = NONE; high = NONE }

unfoldable pub label_of : List Label → ℕ → Label
label_of labels k = slice_index_or labels k (unlabelled k)

-- the second is the first or an ancestor of it
abbrev pub is_up : List (List ℕ) → ℕ → ℕ → Bool
is_up graph e a = (e == a) || is_ancestor graph e a

-- the ring above is reached by a step from one of the ring's members
abbrev pub is_joined_up : List (List ℕ) → List Trace → List Label → ℕ → Bool
is_joined_up graph traces labels k = ((trace_of traces (label_of labels k).by).root == k)
    && ((trace_of traces (label_of labels k).to).root == (label_of labels k).up)
    && nat_lt (label_of labels k).to (length graph)
    && is_among (supertypes graph (label_of labels k).by) (label_of labels k).to
    && nat_lt (label_of labels (label_of labels k).up).depth (label_of labels k).depth

abbrev pub climbs : List (List ℕ) → List Trace → List Label → ℕ → Bool
climbs graph traces labels k = ((label_of labels k).up == k) || is_joined_up graph traces labels k

-- the jump is a step up, or the jump of the jump from there
abbrev pub jumps : List Label → ℕ → Bool
jumps labels k = ((label_of labels k).jump == (label_of labels k).up)
    || (nat_lt (label_of labels (label_of labels k).up).depth (label_of labels k).depth
    && nat_lt (label_of labels (label_of labels (label_of labels k).up).jump).depth (label_of labels k).depth
    && ((label_of labels k).jump == (label_of labels (label_of labels (label_of labels k).up).jump).jump))

abbrev pub is_sound : List (List ℕ) → List Trace → List Label → ℕ → Bool
is_sound graph traces labels k = climbs graph traces labels k && jumps labels k

-- the range of the second holds that of the first
abbrev pub is_nested : List Label → ℕ → ℕ → Bool
is_nested labels k above = leb (label_of labels above).low (label_of labels k).low && leb (label_of labels k).high (label_of labels above).high

abbrev pub nests : List (List ℕ) → List Trace → List Label → ℕ → Bool
nests graph traces labels m = list_all (λ above. is_nested labels (trace_of traces m).root (trace_of traces above).root) (supertypes graph m)

-- what was found of the members and of their rings can be relied on
pub record IsSure (graph : List (List ℕ)) (traces : List Trace) (labels : List Label) : Type 0 where
  pub certain : (m : ℕ) → m < length graph → IsTrue (is_certain graph traces m)
  pub sound : (k : ℕ) → k < length labels → IsTrue (is_sound graph traces labels k)
  pub nested : (m : ℕ) → m < length graph → IsTrue (nests graph traces labels m)
