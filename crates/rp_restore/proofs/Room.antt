-- There is a place for a row that may be put.
use Rattle.std.proofs.Common.{◌≡◌, ◌<◌, ℕ, List, length, None, refl, lt-ltb}
use Rattle.std.specs.Prelude.{filter}
use Rattle.std.specs.List.{find}
use Rattle.rp_rows.specs.declared.rows.Key.{Key}
use Rattle.rp_rows.specs.Rows.{Row, is_row}
use Rattle.rp_rows.specs.Sight.{owns}
use Rattle.rp_restore.specs.Places.{no_place}

pub has_place : {A : Type 0} (most : ℕ) (k : Key) (rows : List (Row A)) → find (is_row k) rows ≡ None → length (filter (owns k.owner) rows) < most → no_place most k rows ≡ None
has_place most k rows new room = rw (new, lt-ltb (length (filter (owns k.owner) rows)) most room) refl
