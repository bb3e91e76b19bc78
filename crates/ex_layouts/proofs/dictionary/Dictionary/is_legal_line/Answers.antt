use Rattle.std.proofs.Common.{◌∙◌, not, is_some, List, sym, ap}
use Rattle.ex_layouts.specs.Entities.{ascending}
use Rattle.ex_layouts.proofs.Ascending.{ascending_has, ascending_rises}
use Rattle.ex_named.specs.declared.declaration.NamedEntity.{NamedEntity}
use Rattle.ex_subtypes.specs.Legal.{refusal}
use Rattle.ex_layouts.proofs.dictionary.Dictionary.is_legal_line.Goals as goal

pub returns-then-is_unconstrained : goal.returns-then-is_unconstrained
returns-then-is_unconstrained c =
    let line = c.args.line.now in
    let none = c.is_unconstrained.ensures c.if-is_unconstrained.true (ascending line) (ascending_rises line) (ascending_has line) in
    ap (λ o. not (is_some o)) (sym none) ∙ ap (λ (es : List NamedEntity). not (is_some (refusal es (ascending line)))) c.entities.ensures
