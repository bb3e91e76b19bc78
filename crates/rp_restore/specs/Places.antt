-- Whether there is a place for a row.
use Rattle.std.specs.Prelude.{ℕ, nat_lt, List, length, filter, Option, Some, None, is_some, if◌then◌else◌}
use Rattle.std.specs.List.{find}
use Rattle.rp_rows.specs.declared.rows.Key.{Key}
use Rattle.rp_rows.specs.Rows.{Row, is_row}
use Rattle.rp_rows.specs.Sight.{owns}
use Rattle.rp_restore.specs.declared.fault.RowReason.{RowReason}
use Rattle.rp_restore.specs.declared.fault.RowReason.TheVariants.{Twice, TooMany}

-- why there is no place for a row of this key among these, of which an owner may have so many
abbrev pub no_place : {A : Type 0} → ℕ → Key → List (Row A) → Option RowReason
no_place most k rows =
    if is_some (find (is_row k) rows) then Some Twice
    else (if nat_lt (length (filter (owns k.owner) rows)) most then None else Some TooMany)
