-- Which members of a graph lead to a marked one. The graph has a list for each member: to whom it leads by one step.
use Rattle.std.specs.Prelude.{ℕ, zero, Bool, false, not, ◌||◌, ◌&&◌, ◌==◌, nat_lt, List, length, map, slice_index_or, if◌then◌else◌}
use Rattle.std.specs.List.{list_any, list_all}
use Rattle.graphs.specs.Graphs.{supertypes, family, numbers_from}

-- none is marked beyond the end
abbrev pub is_marked : List Bool → ℕ → Bool
is_marked marks m = slice_index_or marks m false

-- whether a member or one that it leads to is marked
abbrev pub leads : List (List ℕ) → List Bool → ℕ → Bool
leads graph marks m = list_any (is_marked marks) (family graph m)

-- of each member
unfoldable pub leading : List (List ℕ) → List Bool → List Bool
leading graph marks = map (leads graph marks) (numbers_from zero (length graph))

-- ---- what is tested of a walk

unfoldable pub steps_of : List ℕ → ℕ → ℕ
steps_of steps m = slice_index_or steps m zero

-- one leads to a marked one by fewer steps than the other
abbrev pub leads_on : ℕ → List ℕ → ℕ → ℕ → Bool
leads_on count steps m next = nat_lt next count && nat_lt zero (steps_of steps next) && nat_lt (steps_of steps next) (steps_of steps m)

abbrev pub none_leads : List (List ℕ) → List ℕ → ℕ → Bool
none_leads graph steps m = list_all (λ next. steps_of steps next == zero) (supertypes graph m)

abbrev pub some_leads_on : List (List ℕ) → List ℕ → ℕ → Bool
some_leads_on graph steps m = list_any (λ next. leads_on (length graph) steps m next) (supertypes graph m)

-- a member has no steps, and leads to no marked one, or it is marked or leads to one that has fewer
abbrev pub is_right : List (List ℕ) → List Bool → List ℕ → ℕ → Bool
is_right graph marks steps m =
    if steps_of steps m == zero then (not (is_marked marks m) && none_leads graph steps m) else (is_marked marks m || some_leads_on graph steps m)
