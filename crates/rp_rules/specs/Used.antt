-- What a validation uses.
use Rattle.std.specs.Prelude.{ℕ, List}
use Rattle.rp_eval_parts.specs.declared.kept.Row.{Row}

-- the steps so far, and the derived values that it remembers
pub record Used : Type 0 where
  pub steps : ℕ
  pub memory : List Row
