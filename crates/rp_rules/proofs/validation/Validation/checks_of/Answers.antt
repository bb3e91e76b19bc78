use Rattle.std.proofs.Common.{rules, sym, ◌∙◌, arith}
use Rattle.rp_rules.proofs.Sequences.{of-step}
use Rattle.rp_rules.proofs.validation.Validation.checks_of.Goals as goal

pub loop-number-preserved : goal.loop-number-preserved
loop-number-preserved g c =
    let schema = c.args.self.now.schema.now in
    let population = g.D.Domain.population c.args.self.now.domain.now in
    let step = of-step schema population c.args.sort c.loop-number.checks c.loop-number.used.steps c.args.numbers.now c.loop-number.number-index _ (omega arith) (search rules) in
    record {
      memory = c.in_ok-checks_at.ensures.memory;
      left = rw (c.in_ok-checks_at.ensures.checks, c.in_ok-checks_at.ensures.used) (sym step ∙ c.loop-number.invariant.left);
    }
