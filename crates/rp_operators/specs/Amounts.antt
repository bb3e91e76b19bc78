-- Amounts that are bounded.
use Rattle.std.specs.Prelude.{ℕ, ◌+◌, nat_le, length, Option, Some, None, if◌then◌else◌}
use Rattle.std.specs.Fmt.{char_count}
use Rattle.rp_operations.specs.Seen.{Seen, Text, Bits}

-- an amount, unless it is more than so much
abbrev pub unless_more : ℕ → ℕ → Option ℕ
unless_more most amount = if nat_le amount most then Some amount else None

-- the length of the string or of the binary that two make
abbrev pub joined_length : Seen → Seen → ℕ
joined_length (Text s) (Text t) = char_count s + char_count t
joined_length (Bits s) (Bits t) = length s + length t
joined_length s t = 0
