-- The rows of one owner stand in one piece.
use Rattle.std.specs.Prelude.{◌≡◌, ℕ, ◌<◌, Bool, ◌&&◌, List, length, get_or, nat_le, nat_lt}
use Rattle.rp_rows.specs.Rows.{Text, Row}
use Rattle.rp_rows.specs.Sight.{owns}
use Rattle.rp_sight.specs.declared.rows.Part.{Part}

-- from the first place on, and before the end
abbrev pub is_in : Part → ℕ → Bool
is_in part place = nat_le part.first place && nat_lt place part.end

-- those of the owner are at these places, and at no others
pub record IsPart {A : Type 0} (c : Text) (rows : List (Row A)) (part : Part) : Type 0 where
  pub own : (i : ℕ) (r : Row A) → i < length rows → get_or rows i r ≡ r → is_in part i ≡ owns c r
