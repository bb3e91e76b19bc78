-- Names of instances.
use Rattle.std.specs.Prelude.{ℕ}

-- the greatest name of an instance: 18 digits
abbrev pub max_name : ℕ
max_name = 999999999999999999
