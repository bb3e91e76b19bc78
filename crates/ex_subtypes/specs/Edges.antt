-- Steps between places of a set, in any order.
use Rattle.std.specs.Prelude.{◌≡◌, ℕ, Bool, false, ◌&&◌, ◌==◌, nat_lt, List, length, Option, Some, None}
use Rattle.plain_data.specs.Numbers.{is_among}
use Rattle.graphs.specs.Graphs.{supertypes}
use Rattle.ex_subtypes.specs.Legal.{member}

abbrev pub is_that : Option ℕ → ℕ → Bool
is_that None n = false
is_that (Some k) n = k == n

-- this number stands in this place
abbrev pub stands_at : List ℕ → ℕ → ℕ → Bool
stands_at set number place = nat_lt place (length set) && (number == member set place)

-- one of these numbers stands in this place
abbrev pub one_stands_at : List ℕ → List ℕ → ℕ → Bool
one_stands_at set numbers place = nat_lt place (length set) && is_among numbers (member set place)

-- from a member up to one of its supertypes
abbrev pub goes_up : List (List ℕ) → List ℕ → ℕ → ℕ → Bool
goes_up above set e n = nat_lt e (length set) && one_stands_at set (supertypes above (member set e)) n

-- the member in this place is directly below an entity
abbrev pub is_below : List (List ℕ) → List ℕ → ℕ → ℕ → Bool
is_below above set e n = nat_lt n (length set) && is_among (supertypes above (member set n)) e

-- for each member the places of those directly below it
abbrev pub AreBelow : List (List ℕ) → List ℕ → List (List ℕ) → Type 0
AreBelow above set rows = (e n : ℕ) → is_among (supertypes rows e) n ≡ (nat_lt e (length set) && is_below above set (member set e) n)

-- two graphs that have the same steps
abbrev pub HasSameSteps : List (List ℕ) → List (List ℕ) → Type 0
HasSameSteps g h = (e n : ℕ) → is_among (supertypes g e) n ≡ is_among (supertypes h e) n
