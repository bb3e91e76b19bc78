use Rattle.std.proofs.Common.{rules, sym, ◌∙◌}
use Rattle.rp_meaning.specs.Operators as operators
use Rattle.rp_eval_parts.proofs.Told.{told-more, told-same}
use Rattle.rp_eval_parts.proofs.Whole.{whole-cost}
use Rattle.rp_eval_parts.proofs.steps.charge_operator.Goals as goal

pub returns-in-None : goal.returns-in-None
returns-in-None c = told-more (operators.cost c.args.operator c.args.left.now c.args.right.now) c.args.counter.now (sym c.in-None.is ∙ c.cost.ensures)

pub returns-in-Some : goal.returns-in-Some
returns-in-Some c = rw (told-same (operators.cost c.args.operator c.args.left.now c.args.right.now) c.in-Some.steps c.args.counter.now.left (sym c.in-Some.is ∙ c.cost.ensures)) at c.charge.ensures

pub returns-in-Int-Int : goal.returns-in-Int-Int
returns-in-Int-Int c = rw (c.in-Int-Int.is-0, c.in-Int-Int.is-1, whole-cost c.args.operator c.in-Int-Int.field-0-0 c.in-Int-Int.field-0-1) (search rules)
