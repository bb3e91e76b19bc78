-- What stands behind a block, or takes none.
use Rattle.std.specs.Prelude.{ℕ, Bool, pos, List, [], Option, Some, None}
use Rattle.rp_numbers.specs.Decimals as numbers
use Rattle.rp_value.specs.Elements.{Elements}
use Rattle.rp_value.specs.declared.elements.Numbered.{Numbered}
use Rattle.rp_value.specs.declared.characters.Storage.{Storage}
use Rattle.rp_value.specs.declared.characters.Storage.TheVariants as s
use Rattle.rp_value.specs.declared.decimal.Held.{Held}
use Rattle.rp_value.specs.declared.decimal.Held.TheVariants as h

abbrev pub elements_of : {X : Type 0} → Option (Numbered X) → Elements X
elements_of None = record { low = pos 1; items = [] }
elements_of (Some n) = record { low = n.low; items = n.items }

abbrev pub bits_of : Option (List Bool) → List Bool
bits_of None = []
bits_of (Some bits) = bits

abbrev pub text_of : Storage → List ℕ
text_of s.Empty = []
text_of (s.Unmarked c) = c.text
text_of (s.Marked m) = m.counted.text

abbrev pub count_of : Storage → ℕ
count_of s.Empty = 0
count_of (s.Unmarked c) = c.count
count_of (s.Marked m) = m.counted.count

abbrev pub decimal_of : Held → numbers.Decimal
decimal_of (h.Short exponent coefficient) = record { coefficient = coefficient; exponent = exponent }
decimal_of (h.Long d) = d
