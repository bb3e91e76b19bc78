use Rattle.std.proofs.Common.{◌∙◌}
use Rattle.rp_rules.proofs.Sequences.{reported}
use Rattle.rp_rules.proofs.report.validate.Goals as goal

pub returns : goal.returns
returns g c =
    let checks = rw (c.in_ok-checks.ensures, c.new-used.ensures) at c.in_ok-evaluate.ensures.checks in
    let used = rw (c.in_ok-checks.ensures, c.new-used.ensures) at c.in_ok-evaluate.ensures.used in
    reported c.args.schema.now (g.D.Domain.population c.args.domain.now) c.evaluate.new.checks c.steps.result (checks, c.steps.ensures ∙ used)
