use Rattle.std.proofs.Common.{◌∙◌, ap}
use Rattle.ex_kinds.specs.Types.{can_be as can_be_in}
use Rattle.ex_operators.proofs.Operands.{can_be_exact}
use Rattle.ex_operators.proofs.operand.Operand.can_be.Goals as goal

pub returns : goal.returns
returns c = c.can_be.ensures ∙ can_be_exact c.self.inside.types.now c.self.inside.kinds.now c.args.sort ∙ ap (λ o. can_be_in o.possible c.args.sort) c.self.view_is
