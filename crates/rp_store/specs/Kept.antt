-- What a prepared change does, and asks.
use Rattle.std.specs.Prelude.{◌≡◌, ◌≢◌, ◌<◌, ℕ, List, Some, None, Result, MatchResult}
use Rattle.rp_rows.specs.declared.rows.ModelContent.{ModelContent}
use Rattle.rp_store.specs.declared.changes.Prepared.{Prepared}
use Rattle.rp_store.specs.declared.changes.Prepared.TheVariants.{Hold, Remove, Alter}
use Rattle.rp_store.specs.declared.changes.Change.{Change}
use Rattle.rp_store.specs.declared.changes.Change.TheVariants.{Create}
use Rattle.rp_store.specs.declared.changes.StoreFault.{StoreFault}
use Rattle.rp_store.specs.declared.changes.StoreFault.TheVariants.{NoMemory}
use Rattle.rp_store.specs.Entries.{Entries, HasAt}
use Rattle.rp_store.specs.Models.{Held, held_at, with_model, edited}
use Rattle.rp_store.specs.Contents.{edited_by, EditFits}
use Rattle.rp_store.specs.Changes.{key_of, fault, changed}

abbrev pub made : Prepared → List Held → List Held
made (Hold k h) ms = with_model k (Some h) ms
made (Remove k) ms = with_model k None ms
made (Alter k edit) ms = edited k (edited_by edit) ms

-- there is room for what is new
unfoldable pub Fits : Entries ModelContent → Prepared → Type 0
Fits s (Hold k h) = 0 < s.room
Fits s (Remove k) = Unit {0}
Fits s (Alter k edit) = HasAt (EditFits edit) k s.entries

-- there is room for a model more, where the change makes one
abbrev pub HasRoomFor : Change → ℕ → Type 0
HasRoomFor (Create k schema) room = 0 < room
HasRoomFor _ room = Unit {0}

-- nothing refuses the change of these models. Of all models among which the one of its key is the same, this makes it, with the memory that it takes
pub record IsPrepared (change : Change) (ms : List Held) (prepared : Prepared) : Type 0 where
  pub passes : fault change ms ≡ None
  pub makes : (ns : List Held) → held_at (key_of change) ns ≡ held_at (key_of change) ms → made prepared ns ≡ changed change ns
  pub fits : (s : Entries ModelContent) → held_at (key_of change) s.entries ≡ held_at (key_of change) ms → HasRoomFor change s.room → Fits s prepared

-- the change is prepared, or refused for the first reason that holds
abbrev pub Prepares : Change → List Held → Result Prepared StoreFault → Type 0
Prepares change ms result = MatchResult result (IsPrepared change ms) (λ why. why ≢ NoMemory → fault change ms ≡ Some why)
