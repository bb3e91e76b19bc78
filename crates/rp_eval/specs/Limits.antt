-- Outcomes within a limit of steps.
use Rattle.std.specs.Prelude.{ℕ, ◌≤◌}
use Rattle.rp_meaning.specs.declared.outcome.Outcome.{Outcome}
use Rattle.rp_meaning.specs.declared.outcome.Outcome.TheVariants as o

-- no more steps were taken
abbrev pub IsWithin : ℕ → Outcome → Type 0
IsWithin limit (o.Value x steps) = steps ≤ limit
IsWithin limit o.Limit = Unit {0}
