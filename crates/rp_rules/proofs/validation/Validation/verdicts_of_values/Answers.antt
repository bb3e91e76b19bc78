use Rattle.std.proofs.Common.{[], map, sym, ap, ◌∙◌, arith}
use Rattle.rp_meaning.specs.Report.{world}
use Rattle.rp_rules.proofs.TypeTallies.{noted-all, noted-end, noted-step}
use Rattle.rp_rules.proofs.validation.Validation.verdicts_of_values.Goals as goal

pub returns-clause-verdicts : goal.returns-clause-verdicts
returns-clause-verdicts g c =
    let w = world c.args.self.now.schema.now (g.D.Domain.population c.args.self.now.domain.now) in
    let end = noted-end w c.args.rule c.loop-value.verdicts c.args.values.now c.loop-value.value-index c.loop-value.used.steps (omega arith) in
    ap (λ p. p.0) (sym end ∙ c.loop-value.invariant.left ∙ noted-all w [] (map (λ x. (c.args.rule, x)) c.args.values.now) c.args.used.now.steps)

pub returns-clause-used : goal.returns-clause-used
returns-clause-used g c =
    let w = world c.args.self.now.schema.now (g.D.Domain.population c.args.self.now.domain.now) in
    let end = noted-end w c.args.rule c.loop-value.verdicts c.args.values.now c.loop-value.value-index c.loop-value.used.steps (omega arith) in
    ap (λ p. p.1) (sym end ∙ c.loop-value.invariant.left ∙ noted-all w [] (map (λ x. (c.args.rule, x)) c.args.values.now) c.args.used.now.steps)

pub loop-value-preserved : goal.loop-value-preserved
loop-value-preserved g c =
    let w = world c.args.self.now.schema.now (g.D.Domain.population c.args.self.now.domain.now) in
    let step = noted-step w c.args.rule c.loop-value.verdicts c.args.values.now c.loop-value.value-index c.value-item.result c.loop-value.used.steps (omega arith) c.value-item.is in
    record {
      memory = c.in_ok-ended.ensures.memory;
      left = rw (c.with-verdicts.ensures, c.verdict_of.ensures, c.in_ok-ended.ensures.ended, c.in_ok-ended.ensures.used, c.in_ok-copy.ensures) (sym step ∙ c.loop-value.invariant.left);
    }
