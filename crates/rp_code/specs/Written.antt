-- What stays where instructions are written before others.
use Rattle.std.specs.Prelude.{ℕ, ◌≡◌, ◌-◌, ◌≤◌, List, drop, length}
use Rattle.rp_code.specs.declared.instruction.Instruction.{Instruction}

-- so many, the last ones
abbrev pub last : ℕ → List Instruction → List Instruction
last count code = drop (length code - count) code

-- what there was ends what there is
pub record Keeps (old new : List Instruction) : Type 0 where
  pub more : length old ≤ length new
  pub kept : last (length old) new ≡ old
