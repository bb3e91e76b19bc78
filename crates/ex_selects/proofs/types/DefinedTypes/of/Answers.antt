use Rattle.std.proofs.Common.{map, sym, ◌∙◌, ap}
use Rattle.ex_selects.specs.Items.{items_by}
use Rattle.ex_selects.proofs.types.DefinedTypes.of.Goals as goal

pub invariant_of-result : goal.invariant_of-result
invariant_of-result c =
    let same = c.in_ok-declared.ensures in (
      c.in_ok-names.ensures.names ∙ ap (map (λ x. x.name.text)) (sym same),
      c.in_ok-descent.ensures.descent,
      c.in_ok-names.ensures.items ∙ ap (map (λ x. items_by x.underlying)) (sym same),
      c.in_ok-descent.ensures.kept,
      c.in_ok-descent.ensures.takers,
      c.in_ok-instances.ensures,
    )
