use Rattle.std.proofs.Common.{rules, sym, ap, ◌∙◌, arith}
use Rattle.rp_meaning.specs.Report.{world}
use Rattle.rp_rules.proofs.TypeTallies.{attributes-end, attributes-past, attributes-step, attributes-whole}
use Rattle.rp_rules.proofs.validation.Validation.tally_attributes.Goals as goal

pub loop-slot-preserved : goal.loop-slot-preserved
loop-slot-preserved g c =
    let schema = c.args.self.now.schema.now in
    let population = g.D.Domain.population c.args.self.now.domain.now in
    let of = c.instance.inside in
    let step = attributes-step schema population c.args.number c.args.place (world schema population) c.loop-slot.found c.loop-slot.used.steps c.args.at c.args.instance.now of.differing.now of.attributes.now of.written.now c.loop-slot.slot _ c.in-Some.value.now (omega arith) (search rules) (search rules) (search rules) in
    record {
      memory = c.in_ok-tally_attribute.ensures.memory;
      left = rw (c.in_ok-tally_attribute.ensures.found, c.in_ok-tally_attribute.ensures.used) (sym step ∙ c.loop-slot.invariant.left);
    }

pub returns-in_default-clause-found : goal.returns-in_default-clause-found
returns-in_default-clause-found g c =
    let schema = c.args.self.now.schema.now in
    let population = g.D.Domain.population c.args.self.now.domain.now in
    let of = c.instance.inside in
    let end = attributes-end schema population c.args.number c.args.place (world schema population) c.loop-slot.found c.loop-slot.used.steps c.args.at c.args.instance.now of.differing.now of.attributes.now of.written.now c.loop-slot.slot (search rules) in
    let whole = attributes-whole schema population c.args.number c.args.place (world schema population) c.args.found.now c.args.used.now.steps c.args.at c.args.instance.now of.entities.now of.differing.now of.attributes.now of.written.now c.instance.view_is in
    ap (λ p. p.0) (sym end ∙ c.loop-slot.invariant.left ∙ whole)

pub returns-in_default-clause-used : goal.returns-in_default-clause-used
returns-in_default-clause-used g c =
    let schema = c.args.self.now.schema.now in
    let population = g.D.Domain.population c.args.self.now.domain.now in
    let of = c.instance.inside in
    let end = attributes-end schema population c.args.number c.args.place (world schema population) c.loop-slot.found c.loop-slot.used.steps c.args.at c.args.instance.now of.differing.now of.attributes.now of.written.now c.loop-slot.slot (search rules) in
    let whole = attributes-whole schema population c.args.number c.args.place (world schema population) c.args.found.now c.args.used.now.steps c.args.at c.args.instance.now of.entities.now of.differing.now of.attributes.now of.written.now c.instance.view_is in
    ap (λ p. p.1) (sym end ∙ c.loop-slot.invariant.left ∙ whole)

pub returns-clause-found : goal.returns-clause-found
returns-clause-found g c =
    let schema = c.args.self.now.schema.now in
    let population = g.D.Domain.population c.args.self.now.domain.now in
    let of = c.instance.inside in
    let past = attributes-past schema population c.args.number c.args.place (world schema population) c.loop-slot.found c.loop-slot.used.steps c.args.at c.args.instance.now of.differing.now of.attributes.now of.written.now c.loop-slot.slot (omega arith) in
    let whole = attributes-whole schema population c.args.number c.args.place (world schema population) c.args.found.now c.args.used.now.steps c.args.at c.args.instance.now of.entities.now of.differing.now of.attributes.now of.written.now c.instance.view_is in
    ap (λ p. p.0) (sym past ∙ c.loop-slot.invariant.left ∙ whole)

pub returns-clause-used : goal.returns-clause-used
returns-clause-used g c =
    let schema = c.args.self.now.schema.now in
    let population = g.D.Domain.population c.args.self.now.domain.now in
    let of = c.instance.inside in
    let past = attributes-past schema population c.args.number c.args.place (world schema population) c.loop-slot.found c.loop-slot.used.steps c.args.at c.args.instance.now of.differing.now of.attributes.now of.written.now c.loop-slot.slot (omega arith) in
    let whole = attributes-whole schema population c.args.number c.args.place (world schema population) c.args.found.now c.args.used.now.steps c.args.at c.args.instance.now of.entities.now of.differing.now of.attributes.now of.written.now c.instance.view_is in
    ap (λ p. p.1) (sym past ∙ c.loop-slot.invariant.left ∙ whole)
