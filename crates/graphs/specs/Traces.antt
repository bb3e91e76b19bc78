-- What is tested of what two walks found of a graph's members.
use Rattle.std.specs.Prelude.{ℕ, Bool, false, ◌||◌, ◌&&◌, ◌==◌, nat_lt, length, List, Option, Some, None, slice_get, slice_index_or}
use Rattle.std.specs.List.{list_all, list_any}
use Rattle.graphs.specs.declared.walks.Trace.{Trace}
use Rattle.graphs.specs.declared.walks.TheConstants.{NONE}
use Rattle.graphs.specs.Graphs.{supertypes}

-- what is known before the walks
unfoldable pub untraced : ℕ → Trace
untraced m = record { root = m; turn = NONE; depth = NONE; from = NONE; place = NONE }

unfoldable pub trace_of : List Trace → ℕ → Trace
trace_of traces m = slice_index_or traces m (untraced m)

-- a supertype is said to be of the member's ring
abbrev pub is_level : List Trace → ℕ → ℕ → Bool
is_level traces m above = (trace_of traces above).root == (trace_of traces m).root

-- the root of one ring has an earlier turn than that of another
abbrev pub is_earlier : List Trace → ℕ → ℕ → Bool
is_earlier traces root next = nat_lt (trace_of traces root).turn (trace_of traces next).turn

-- a supertype is of the member's ring, or of one that comes later
abbrev pub goes_up : ℕ → List Trace → ℕ → ℕ → Bool
goes_up count traces m above = (nat_lt above count && is_level traces m above) || is_earlier traces (trace_of traces m).root (trace_of traces above).root

-- a supertype is of the member's ring and was found before it
abbrev pub leads_on : List Trace → ℕ → ℕ → Bool
leads_on traces m above = is_level traces m above && nat_lt (trace_of traces above).turn (trace_of traces m).turn

-- the one from which the walk up came is of the member's ring and less deep
abbrev pub leads_back : List Trace → ℕ → Bool
leads_back traces m = is_level traces m (trace_of traces m).from && nat_lt (trace_of traces (trace_of traces m).from).depth (trace_of traces m).depth

abbrev pub is_that : Option ℕ → ℕ → Bool
is_that None m = false
is_that (Some n) m = n == m

-- the list of one member has the other at the place
abbrev pub is_listed : List (List ℕ) → ℕ → ℕ → ℕ → Bool
is_listed graph m place above = is_that (slice_get (supertypes graph m) place) above

abbrev pub some_leads_on : List (List ℕ) → List Trace → ℕ → Bool
some_leads_on graph traces m = list_any (λ above. leads_on traces m above) (supertypes graph m)

abbrev pub all_go_up : List (List ℕ) → List Trace → ℕ → Bool
all_go_up graph traces m = list_all (λ above. goes_up (length graph) traces m above) (supertypes graph m)

-- a member is the root of its ring, or is joined to it both ways
abbrev pub is_joined : List (List ℕ) → List Trace → ℕ → Bool
is_joined graph traces m = ((trace_of traces m).root == m) || (some_leads_on graph traces m && is_listed graph (trace_of traces m).from (trace_of traces m).place m && leads_back traces m)

-- no supertype is of an earlier ring, and the member is of its own
abbrev pub is_certain : List (List ℕ) → List Trace → ℕ → Bool
is_certain graph traces m = all_go_up graph traces m && is_joined graph traces m

-- a supertype is of the member's ring
abbrev pub has_level : List (List ℕ) → List Trace → ℕ → Bool
has_level graph traces m = list_any (λ above. is_level traces m above) (supertypes graph m)
