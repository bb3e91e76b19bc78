-- The places of entities in a list that names each once.
use Rattle.std.specs.Prelude.{◌≡◌, ℕ, Bool, ◌&&◌, nat_lt, List, length}
use Rattle.std.specs.BTreeMap.{BTreeMap, get}
use Rattle.std.specs.Ordering.{nat_cmp}
use Rattle.ex_subtypes.specs.Edges.{is_that, stands_at}
use Rattle.ex_subtypes.specs.Legal.{member}

-- a table has the place of each
abbrev pub HasPlaces : BTreeMap ℕ ℕ → List ℕ → Type 0
HasPlaces table named = (entity place : ℕ) → is_that (get nat_cmp table entity) place ≡ stands_at named entity place

-- the member of this number is named, and this is its place
abbrev pub is_place_of : List ℕ → List ℕ → ℕ → ℕ → Bool
is_place_of named members number place = nat_lt number (length members) && stands_at named (member members number) place
