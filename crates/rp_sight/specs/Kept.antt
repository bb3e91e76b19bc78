-- What is kept of groups, and marks beside models.
use Rattle.std.specs.Prelude.{ℕ, zero, suc, Bool, false, ◌||◌, List, [], ◌∷◌}
use Rattle.rp_rows.specs.Rows.{Model, GroupRow}
use Rattle.rp_rows.specs.declared.rows.Grant.{Grant}
use Rattle.rp_rows.specs.declared.rows.Listing.{Listing}
use Rattle.rp_store.specs.declared.keyed.Entry.{Entry}
use Rattle.rp_listers.specs.Kept.{KeptListers}
use Rattle.rp_sight.specs.Granted.{Names, KeepsGranted}
use Rattle.rp_sight.specs.Told.{KeepsListed}
use Rattle.rp_sight.specs.Stored.{joined, IsTable}

-- groups, the names of those that partners are granted, room for more of each, and which groups may list a model
pub record KeptGroups : Type 0 where
  pub rows : List GroupRow
  pub room : ℕ
  pub right_room : ℕ
  pub names : List Names
  pub name_room : ℕ
  pub listers : KeptListers

-- two halves with the same keys, no name missing of what partners are granted, and no group of those that list a model
pub record AreGroups (listings : List (Entry Listing)) (rights : List (Entry (List Grant))) (names : List Names) (listers : KeptListers) : Type 0 where
  pub table : IsTable listings rights
  pub granted : KeepsGranted names (joined listings rights)
  pub listed : KeepsListed listers (joined listings rights)

-- the marks from a place on, of so many, where those at some places are set
abbrev pub marks_from : (ℕ → Bool) → ℕ → ℕ → List Bool
marks_from is_set place zero = []
marks_from is_set place (suc n) = is_set place ∷ marks_from is_set (suc place) n

-- marks beside models, and a mark at each that passes as well
abbrev pub marked : (Model → Bool) → List Bool → List Model → List Bool
marked b [] ms = []
marked b (t ∷ ts) [] = t ∷ ts
marked b (t ∷ ts) (m ∷ ms) = (t || b m) ∷ marked b ts ms

-- no mark beside each model
abbrev pub unmarked : List Model → List Bool
unmarked [] = []
unmarked (m ∷ ms) = false ∷ unmarked ms
