-- How what stands in front is read: its form first, and then its codes.
use Rattle.std.specs.Prelude.{ℕ, ◌*◌, ◌<◌, ◌≤◌, ◌^◌, List, [], length, drop, slice_index, Option, Some, None, Result, Ok, Err}
use Rattle.std.specs.Char.{encode_utf8}
use Rattle.p21_escapes.specs.declared.escape.Form.{Form}
use Rattle.p21_escapes.specs.declared.escape.Form.TheVariants.{Nothing, Coded, Raw, ShortGroups, LongGroups}
use Rattle.p21_escapes.specs.declared.fault.StringFault.{StringFault}
use Rattle.p21_escapes.specs.Digits.{value_of_four}
use Rattle.p21_escapes.specs.Decoding.{Decoding, Front, coded, raw, enclosed, short, long}

-- the value of the group of four digits in front
abbrev pub group : List ℕ → ℕ
group z = value_of_four (slice_index z 0) (slice_index z 1) (slice_index z 2) (slice_index z 3)

-- what stands in front, by its form
abbrev pub spelled_by : Form → List ℕ → Front
spelled_by (Nothing n) z = Ok (n, [])
spelled_by (Coded n code) z = coded n code
spelled_by (Raw n) z = raw n z
spelled_by (ShortGroups n) z = enclosed n (short None) (drop 4 z)
spelled_by (LongGroups n) z = enclosed n long (drop 4 z)

abbrev pub told : Result Form StringFault → List ℕ → Front
told (Ok form) z = spelled_by form z
told (Err fault) z = Err fault

-- Some bytes are taken, and as many groups are there.
abbrev pub Fits : Form → List ℕ → Type 0
Fits (Nothing n) z = 1 ≤ n
Fits (Coded n code) z = 1 ≤ n
Fits (Raw n) z = (1 ≤ n) × (n ≤ 4)
Fits (ShortGroups n) z = (n < 2 ^ 61) × (4 * n ≤ length (drop 4 z))
Fits (LongGroups n) z = (n < 2 ^ 61) × (4 * n ≤ length (drop 4 z))

abbrev pub told_character : Result ℕ StringFault → Decoding (Unit {0})
told_character (Ok c) = Ok (tt, encode_utf8 c)
told_character (Err fault) = Err fault

abbrev pub told_unit : Result (Option ℕ × Option ℕ) StringFault → Decoding (Option ℕ)
told_unit (Ok (Some c, next)) = Ok (next, encode_utf8 c)
told_unit (Ok (None, next)) = Ok (next, [])
told_unit (Err fault) = Err fault

-- without the text
abbrev pub checked : {A : Type 0} → Decoding A → Result A StringFault
checked (Ok p) = Ok p.0
checked (Err fault) = Err fault
