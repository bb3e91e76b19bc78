-- Parts of what has places.
use Rattle.std.specs.Prelude.{ℕ, ℤ, nat_abs, ◌-◌, Option, Some, None, if◌then◌else◌}
use Rattle.rp_meaning.specs.BuiltIns.{is_range}

-- from where to where, counted from 0, of so many that are counted from 1
abbrev pub between : ℤ → ℤ → ℕ → Option (ℕ × ℕ)
between first last count = if is_range first last count then Some (nat_abs first - 1, nat_abs last) else None
