-- Texts in blocks of 256 bytes.
use Rattle.std.specs.Prelude.{◌≡◌, ℕ, ◌+◌, ◌*◌, ◌/◌, List, [], length, take, map}
use Rattle.std.specs.List.{count_by, range_with_len}
use Rattle.std.specs.Fmt.{is_char_start}
use Rattle.rp_value.specs.declared.characters.Storage.{Storage}
use Rattle.rp_value.specs.declared.characters.Storage.TheVariants as s

-- how many characters begin in so many first blocks
abbrev pub begun_in : List ℕ → ℕ → ℕ
begun_in text blocks = count_by is_char_start (take (blocks * 256) text)

-- before each block
unfoldable pub block_starts : List ℕ → List ℕ
block_starts text = map (begun_in text) (range_with_len 0 (length text / 256 + 1))

-- each mark is true
abbrev pub marks_of : Storage → List ℕ
marks_of (s.Marked m) = m.starts
marks_of _ = []

abbrev pub marks_due : Storage → List ℕ
marks_due (s.Marked m) = block_starts m.counted.text
marks_due _ = []

abbrev pub HasMarks : Storage → Type 0
HasMarks held = marks_of held ≡ marks_due held
