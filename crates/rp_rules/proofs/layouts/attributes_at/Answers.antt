use Rattle.std.proofs.Common.{sym, ◌∙◌}
use Rattle.std.proofs.lemmas.List.{take_all}
use Rattle.rp_rules.proofs.Laid.{attributes-got}
use Rattle.rp_rules.proofs.layouts.attributes_at.Goals as goal

pub returns-then-count-attributes : goal.returns-then-count-attributes
returns-then-count-attributes g c =
    let of = c.instance-2.inside in
    attributes-got (g.D.Domain.population c.args.domain.now) c.args.place _ of.entities.now of.attributes.now of.written.now of.differing.now c.instance-2.view_is c.in-Some.ensures

pub returns-else-count-attributes : goal.returns-else-count-attributes
returns-else-count-attributes g c =
    let of = c.instance-2.inside in
    sym (take_all _ of.attributes.now c.if-count-attributes.false)
    ∙ attributes-got (g.D.Domain.population c.args.domain.now) c.args.place _ of.entities.now of.attributes.now of.written.now of.differing.now c.instance-2.view_is c.in-Some.ensures
