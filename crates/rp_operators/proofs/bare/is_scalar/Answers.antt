use Rattle.rp_operators.proofs.Sights.{no-aggregate}
use Rattle.rp_operators.proofs.bare.is_scalar.Goals as goal

pub returns-in_default : goal.returns-in_default
returns-in_default c = λ _. no-aggregate c.args.value.now c.in_default.not-Agg c.in_default.not-Named
