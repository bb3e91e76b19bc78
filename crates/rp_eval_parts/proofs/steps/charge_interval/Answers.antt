use Rattle.std.proofs.Common.{sym, ◌∙◌}
use Rattle.rp_meaning.specs.Operators as operators
use Rattle.rp_eval_parts.proofs.Told.{told-more, told-same}
use Rattle.rp_eval_parts.proofs.steps.charge_interval.Goals as goal

pub returns-in-None : goal.returns-in-None
returns-in-None c = told-more (operators.interval_cost c.args.low.now c.args.item.now c.args.high.now) c.args.counter.now (sym c.in-None.is ∙ c.interval_cost.ensures)

pub returns-in-Some : goal.returns-in-Some
returns-in-Some c = rw (told-same (operators.interval_cost c.args.low.now c.args.item.now c.args.high.now) c.in-Some.steps c.args.counter.now.left (sym c.in-Some.is ∙ c.interval_cost.ensures)) at c.charge.ensures
