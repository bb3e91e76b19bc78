-- Counts of what was begun, and of what failed.
use Rattle.std.specs.Prelude.{◌≡◌, ◌≢◌, ℕ, ◌+◌, ◌%◌, ◌^◌}

-- one more failed: the count is another one, and never 0 again
abbrev pub Fails : (old new : ℕ) → Type 0
Fails old new = (new ≢ old) × (new ≢ 0)

-- one more was begun, as a field counts that begins anew at 2 ^ 64
abbrev pub BeginsOne : (old new : ℕ) → Type 0
BeginsOne old new = new % 2 ^ 64 ≡ (old + 1) % 2 ^ 64
