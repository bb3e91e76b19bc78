-- Strings in double quotes, group by group.
use Rattle.std.proofs.Common.{◌≡◌, ℕ, ◌<◌, ◌≤◌, List, [], ◌∷◌, ◌++◌, length, take, drop, refl, ap, arith, Option, Some, None, option_map}
use Rattle.std.specs.Char.{encode_utf8}
use Rattle.std.specs.Str.{encode_utf8_all}
use Rattle.std.proofs.lemmas.List.{append-nil, append_assoc}
use Rattle.ex_lex.specs.Strings.{character, characters, before}

-- what was read, and then the characters that are left
abbrev pub read_after : List ℕ → Option (List ℕ) → Option (List ℕ)
read_after found None = None
read_after found (Some cs) = Some (found ++ encode_utf8_all cs)

pub read-start : (cs : Option (List ℕ)) → read_after [] cs ≡ option_map encode_utf8_all cs
read-start None = refl
read-start (Some cs) = refl

front : (z : List ℕ) → 8 ≤ length z → characters z ≡ before (character (take 8 z)) (characters (drop 8 z))
front (a ∷ b ∷ c ∷ d ∷ e ∷ f ∷ g ∷ h ∷ z) long = refl
front [] long = absurd (omega arith)
front (a ∷ []) long = absurd (omega arith)
front (a ∷ b ∷ []) long = absurd (omega arith)
front (a ∷ b ∷ c ∷ []) long = absurd (omega arith)
front (a ∷ b ∷ c ∷ d ∷ []) long = absurd (omega arith)
front (a ∷ b ∷ c ∷ d ∷ e ∷ []) long = absurd (omega arith)
front (a ∷ b ∷ c ∷ d ∷ e ∷ f ∷ []) long = absurd (omega arith)
front (a ∷ b ∷ c ∷ d ∷ e ∷ f ∷ g ∷ []) long = absurd (omega arith)

with_character : (found : List ℕ) (c : ℕ) (others : Option (List ℕ)) → read_after (found ++ encode_utf8 c) others ≡ read_after found (before (Some c) others)
with_character found c None = refl
with_character found c (Some cs) = ap Some (append_assoc found (encode_utf8 c) (encode_utf8_all cs))

pub read-good : (found left : List ℕ) (c : ℕ) → 8 ≤ length left → character (take 8 left) ≡ Some c → read_after (found ++ encode_utf8 c) (characters (drop 8 left)) ≡ read_after found (characters left)
read-good found left c long good = rw (front left long) (rw good (with_character found c (characters (drop 8 left))))

pub read-bad : (found left : List ℕ) → 8 ≤ length left → character (take 8 left) ≡ None → read_after found (characters left) ≡ None
read-bad found left long bad = rw (front left long) (rw bad refl)

pub read-short : (found left : List ℕ) → 0 < length left → length left < 8 → read_after found (characters left) ≡ None
read-short found [] some short = absurd (omega arith)
read-short found (a ∷ []) some short = refl
read-short found (a ∷ b ∷ []) some short = refl
read-short found (a ∷ b ∷ c ∷ []) some short = refl
read-short found (a ∷ b ∷ c ∷ d ∷ []) some short = refl
read-short found (a ∷ b ∷ c ∷ d ∷ e ∷ []) some short = refl
read-short found (a ∷ b ∷ c ∷ d ∷ e ∷ f ∷ []) some short = refl
read-short found (a ∷ b ∷ c ∷ d ∷ e ∷ f ∷ g ∷ []) some short = refl
read-short found (a ∷ b ∷ c ∷ d ∷ e ∷ f ∷ g ∷ h ∷ z) some short = absurd (omega arith)

pub read-end : (found left : List ℕ) → length left ≡ 0 → read_after found (characters left) ≡ Some found
read-end found [] none = ap Some (append-nil found)
read-end found (a ∷ z) none = absurd (omega arith)
