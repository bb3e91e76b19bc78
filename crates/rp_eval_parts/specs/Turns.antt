-- How turns start.
use Rattle.std.specs.Prelude.{◌≡◌, Bool, true, false, Option, Some, None}
use Rattle.rp_meaning.specs.Expressions.{Scope}

-- Whether a turn follows, and what it starts with.
abbrev pub Starts : Option Scope → Bool → Scope → Scope → Type 0
Starts outcome true old new = outcome ≡ Some new
Starts outcome false old new = (outcome ≡ None) × (new ≡ old)
