use Rattle.std.proofs.Common.{rules, ◌≡◌, Some, sym, ap, ◌∙◌}
use Rattle.std.proofs.lemmas.Slice.Eq.{slice_eq-Decides}
use Rattle.std.specs.Bool.{Decides}
use Rattle.std.specs.Option.{option_map}
use Rattle.ex_named.specs.contracts.reference.AttributePlacePartialEq.TheImpl as eq
use Rattle.ex_named.specs.declared.reference.AttributePlace.{AttributePlace}
use Rattle.rp_rules.specs.Layouts.{attributes_at}
use Rattle.rp_rules.proofs.layouts.is_layout.Goals as goal

decides : (one other : AttributePlace) → Decides (eq.eq-value.it one other) (one ≡ other)
decides one other = search rules

pub returns-in-Some : goal.returns-in-Some
returns-in-Some g c = λ is.
    let population = g.D.Domain.population c.args.domain.now in
    let same = (slice_eq-Decides decides c.attributes_at.result.now c.args.attributes.now c.eq.result c.eq.ensures).0 is in
    ap (option_map (attributes_at population)) (sym c.in-Some.ensures.value) ∙ ap Some (sym c.attributes_at.ensures ∙ same)
