-- The reads that a reader made.
use Rattle.std.specs.Prelude.{◌≡◌, ℕ, ◌+◌, ◌*◌, ◌%◌, ◌^◌}

-- how many reads were made, and how many bytes they had room for in all, as fields count that begin anew at 2 ^ 64
pub record Reads : Type 0 where
  pub count : ℕ
  pub room : ℕ

-- n more reads were made, and had room for so many bytes each, all taken together
pub record MakesReads (old new : Reads) (n each : ℕ) : Type 0 where
  pub count : new.count % 2 ^ 64 ≡ (old.count + n) % 2 ^ 64
  pub room : new.room % 2 ^ 64 ≡ (old.room + n * each) % 2 ^ 64
