use Rattle.std.proofs.Common.{◌≡◌, ℕ, List, IfOk, subst, ◌∙◌, ap}
use Rattle.std.specs.List.{filter_map}
use Rattle.ex_kinds.specs.Types.{enumeration}
use Rattle.ex_operators.proofs.Operands.{enumerations_are}
use Rattle.ex_operators.proofs.operand.Operand.enumerations.Goals as goal

pub returns : goal.returns
returns c =
    let Gives : List ℕ → Type 0 = λ l. IfOk c.enumerations_of.result (λ found. found.items ≡ l) in
    let same : filter_map enumeration c.as_slice.result.now ≡ c.args.self.now.possible.enumerations =
    ap (filter_map enumeration) (c.as_slice.ensures ∙ c.in_ok-plain.ensures) ∙ enumerations_are _ ∙ ap (λ o. o.possible.enumerations) c.self.view_is in
    subst Gives same c.enumerations_of.ensures
