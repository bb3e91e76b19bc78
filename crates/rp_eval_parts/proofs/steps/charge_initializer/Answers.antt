use Rattle.std.proofs.Common.{sym, ◌∙◌}
use Rattle.rp_meaning.specs.BuiltIns as built_ins
use Rattle.rp_eval_parts.proofs.Told.{told-more, told-same}
use Rattle.rp_eval_parts.proofs.steps.charge_initializer.Goals as goal

pub returns-in-None : goal.returns-in-None
returns-in-None c = told-more (built_ins.size c.args.value.now) c.args.counter.now (sym c.in-None.is ∙ c.size.ensures)

pub returns-in-Some : goal.returns-in-Some
returns-in-Some c = rw (told-same (built_ins.size c.args.value.now) c.in-Some.steps c.args.counter.now.left (sym c.in-Some.is ∙ c.size.ensures)) at c.charge.ensures
