-- What was written is read as it was.
use Rattle.std.specs.Prelude.{◌≡◌, ◌<◌, ◌^◌, List, Result, Ok, Err}
use Rattle.std.specs.List.{AllByRecursion}
use Rattle.json.specs.Token.{Token}
use Rattle.plain_data.specs.declared.failure.Failure.{Failure}
use Rattle.plain_data.specs.declared.failure.Failure.TheVariants.{NoMemory}
use Rattle.rp_content.specs.declared.link.Link.{Link}
use Rattle.rp_rows.specs.declared.rows.Level.TheVariants.{Read}
use Rattle.rp_rows.specs.declared.rows.Grant.{Grant}
use Rattle.rp_rows.specs.Rows.{key_of, Model, GroupRow}
use Rattle.rp_snapshot_rows.specs.declared.lack.Lack.{Lack}
use Rattle.rp_snapshot_rows.specs.declared.rows.SavedModel.{SavedModel}
use Rattle.rp_snapshot_rows.specs.declared.rows.SavedGroup.{SavedGroup}

-- a function returned this and left these tokens, unless memory ran out
abbrev pub Again : {X Y : Type 0} → (X → Y) → Result X (Failure Lack) → Y → List Token → List Token → Type 0
Again view (Ok x) y new rest = (view x ≡ y) × (new ≡ rest)
Again view (Err e) y new rest = e ≡ NoMemory

-- a function passed over what stood first, unless memory ran out
abbrev pub Passed : Result (Unit {0}) (Failure Lack) → List Token → List Token → Type 0
Passed (Ok x) new rest = new ≡ rest
Passed (Err e) new rest = e ≡ NoMemory

-- ---- rows, but for files

abbrev pub saved_model : Model → SavedModel
saved_model m = record { key = key_of m.owner m.name; schema = m.holds.schema; greatest = m.holds.greatest; grants = m.grants; links = m.holds.content.links }

abbrev pub saved_group : GroupRow → SavedGroup
saved_group g = record { key = key_of g.owner g.name; listing = g.holds; grants = g.grants }

-- ---- which rows can be read: all that are valid

-- its numbers are of 64 bits
abbrev pub HasNumbers : Link → Type 0
HasNumbers l = (l.name < 2 ^ 64) × (l.target < 2 ^ 64)

abbrev pub HasModelNumbers : Model → Type 0
HasModelNumbers m = (m.holds.greatest < 2 ^ 64) × AllByRecursion HasNumbers m.holds.content.links

-- a grant on a group is to read
abbrev pub IsToRead : Grant → Type 0
IsToRead g = g.level ≡ Read
