use Rattle.rp_rules.proofs.Laid.{leads-by}
use Rattle.rp_rules.proofs.validation.Validation.walk.Goals as goal

pub returns : goal.returns
returns g c =
    leads-by c.args.self.now.schema.now (g.D.Domain.population c.args.self.now.domain.now) c.args.number c.args.self.now.layouts.now (record { plan = c.in_ok-plan.plan; layouts = c.in_ok-layouts.layouts })
    c.args.self.now.lays c.in_ok-plan.ensures c.in_ok-layouts.ensures
