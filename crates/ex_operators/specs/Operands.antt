-- What an operand may be.
use Rattle.std.specs.Prelude.{List}
use Rattle.ex_kinds.specs.Kinds.{Kinds}
use Rattle.ex_kinds.specs.Types.{Possible, plain, possible}

-- the defined types that there are, its kinds, where no defined type stands for it, and what is among these
pub record Operand : Type 0 where
  pub types : List Kinds
  pub plain : Kinds
  pub possible : Possible

abbrev pub operand : List Kinds → Kinds → Operand
operand types kinds = record { types = types; plain = plain types kinds; possible = possible (plain types kinds) }
