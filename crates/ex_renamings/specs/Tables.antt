-- Tables of what types rename.
use Rattle.std.specs.Prelude.{◌≡◌, ℕ, List, length, slice_index_or}
use Rattle.ex_named.specs.declared.declaration.NamedType.{NamedType}
use Rattle.ex_renamings.specs.Renamings.{renamed_times}

-- what stands in a table at a number; the number itself beyond the end
abbrev pub target : List ℕ → ℕ → ℕ
target table k = slice_index_or table k k

-- the table has, for each type, the one that is so many renamings further
pub record HasRenamed (n : ℕ) (types : List NamedType) (table : List ℕ) : Type 0 where
  pub as_many : length table ≡ length types
  pub each : (k : ℕ) → target table k ≡ renamed_times n types k
