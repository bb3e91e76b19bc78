-- How much is read at most.
use Rattle.std.specs.Prelude.{ℕ}

-- the bytes of a line: 16 MiB
abbrev pub line_limit : ℕ
line_limit = 16777216

-- the bytes of a file, and of a text that stands for one: 8 MiB
abbrev pub file_limit : ℕ
file_limit = 8388608
