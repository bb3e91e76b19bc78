use Rattle.std.proofs.Common.{sym, ◌∙◌, ap}
use Rattle.std.specs.Option.{option_copied}
use Rattle.rp_file_plans.proofs.LinkOrder.{next_again}
use Rattle.rp_file_plans.proofs.links.stands_again.Goals as goal

pub returns-in-Some : goal.returns-in-Some
returns-in-Some c = next_again c.args.link.now c.in-Some.next.now c.args.others.now c.requires (sym (ap option_copied c.in-Some.is) ∙ c.first.ensures.value)
