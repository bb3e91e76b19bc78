use Rattle.std.proofs.Common.{sym, ◌∙◌, ap}
use Rattle.ex_operators.proofs.Operands.{plain_first}
use Rattle.ex_operators.specs.Operands.{Operand}
use Rattle.ex_operators.specs.Fitting.{is_nothing}
use Rattle.ex_operators.proofs.operand.Operand.is_plain.Goals as goal

pub returns-in-len1-up : goal.returns-in-len1-up
returns-in-len1-up c = λ own.
    ap (λ (o : Operand). is_nothing o.possible) (sym c.self.view_is)
    ∙ plain_first c.self.inside.types.now c.self.inside.kinds.now _ c.in-len1-up.len_at_least (sym c.is_own.ensures ∙ own)
