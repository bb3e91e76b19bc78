use Rattle.std.proofs.Common.{◌≡◌, false, sym, ◌∙◌, ap}
use Rattle.ex_kinds.specs.Kinds as kinds
use Rattle.ex_kinds.specs.Types.{some_plain, has_elements}
use Rattle.ex_operators.proofs.Operands.{no_elements}
use Rattle.ex_operators.proofs.operand.Operand.elements.Goals as goal

pub returns-else-can_have_elements : goal.returns-else-can_have_elements
returns-else-can_have_elements c =
    let types = c.self.inside.types.now in
    let asked = c.self.inside.kinds.now in
    let none : some_plain types has_elements asked ≡ false = sym c.can_have_elements.ensures ∙ c.if-can_have_elements.false in
    c.new.ensures ∙ sym (no_elements types asked none) ∙ ap (λ o. kinds.elements o.plain) c.self.view_is
