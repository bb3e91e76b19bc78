-- The entities above entities and themselves, as they were found for some.
use Rattle.std.specs.Prelude.{◌≡◌, ℕ, List, slice_get, IfSome}
use Rattle.ex_layouts.specs.Entities.{line_of}
use Rattle.ex_schemas.specs.Schemas.{Checked}
use Rattle.rp_group_domain.specs.declared.lines.Line.{Line}

abbrev pub IsLine : Checked → Line → Type 0
IsLine checked l = l.entities ≡ line_of checked l.entity

abbrev pub AreLines : Checked → List Line → Type 0
AreLines checked lines = (k : ℕ) → IfSome (slice_get lines k) (IsLine checked)
