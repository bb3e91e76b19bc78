-- What is read in place of texts, as it was found for some.
use Rattle.std.specs.Prelude.{◌≡◌, ℕ, List, slice_get, IfSome}
use Rattle.rp_meaning.specs.declared.schema.Schema.{Schema}
use Rattle.rp_domain.specs.declared.readings.ReadText.{ReadText}
use Rattle.rp_domain.specs.Rows.{read_value}

abbrev pub IsRead : Schema → ℕ → ReadText → Type 0
IsRead schema count t = read_value schema count t.attribute t.written ≡ t.read

abbrev pub AreRead : Schema → ℕ → List ReadText → Type 0
AreRead schema count texts = (k : ℕ) → IfSome (slice_get texts k) (IsRead schema count)
