-- How canonical text writes characters (ISO 10303-21, 6.4.3).
use Rattle.std.specs.Prelude.{ℕ, Bool, true, false, not, ◌&&◌, ◌==◌, nat_le, nat_lt, if◌then◌else◌, List, [], ◌∷◌, ◌++◌}
use Rattle.std.specs.List.{flat_map, list_any}
use Rattle.std.specs.Str.{chars}
use Rattle.p21_escapes.specs.Digits.{four, eight, end}

-- a character that may stand for itself
abbrev pub is_plain : ℕ → Bool
is_plain c = nat_le 32 c && nat_le c 126

-- a plain character that isn't doubled
abbrev pub is_itself : ℕ → Bool
is_itself c = is_plain c && not (c == 39) && not (c == 92)

-- a plain character, or a longest run of others
pub data Run : Type 0 where
  Plain : ℕ → Run
  Others : ℕ → List ℕ → Run

abbrev pub with_other : ℕ → List Run → List Run
with_other c (Others d ds ∷ rs) = Others c (d ∷ ds) ∷ rs
with_other c rs = Others c [] ∷ rs

abbrev pub runs : List ℕ → List Run
runs [] = []
runs (c ∷ cs) = if is_plain c then Plain c ∷ runs cs else with_other c (runs cs)

-- the apostrophe and the backslash are doubled
abbrev pub plain_text : ℕ → List ℕ
plain_text c = if c == 39 then 39 ∷ 39 ∷ [] else if c == 92 then 92 ∷ 92 ∷ [] else c ∷ []

abbrev pub is_wide : ℕ → Bool
is_wide c = nat_lt 65535 c

-- `\X4\` and groups of eight digits if four are too few for one of them, else `\X2\` and groups of four
abbrev pub others_text : List ℕ → List ℕ
others_text cs =
    if list_any is_wide cs then 92 ∷ 88 ∷ 52 ∷ 92 ∷ (flat_map eight cs ++ end) else 92 ∷ 88 ∷ 50 ∷ 92 ∷ (flat_map four cs ++ end)

abbrev pub run_text : Run → List ℕ
run_text (Plain c) = plain_text c
run_text (Others c cs) = others_text (c ∷ cs)

-- what a run that was begun adds
abbrev pub open_text : List ℕ → List ℕ
open_text [] = []
open_text (c ∷ cs) = others_text (c ∷ cs)

-- a run that was begun, and what follows it
abbrev pub with_run : List ℕ → List Run → List Run
with_run [] rs = rs
with_run (c ∷ cs) rs = with_other c (with_run cs rs)

abbrev pub runs_text : List Run → List ℕ
runs_text rs = flat_map run_text rs

-- what canonical text has for a text in UTF-8
unfoldable pub encoded : List ℕ → List ℕ
encoded text = runs_text (runs (chars text))

-- each apostrophe doubled, as it has to be between apostrophes; the first argument says that the second of two comes next
abbrev pub is_paired : Bool → List ℕ → Bool
is_paired is_second [] = not is_second
is_paired true (b ∷ z) = b == 39 && is_paired false z
is_paired false (b ∷ z) = if b == 39 then is_paired true z else is_paired false z
