use Rattle.ex_check.proofs.Lines.{first_before, first_of_one}
use Rattle.ex_check.proofs.shown.first_line.Goals as goal

pub returns-in-Some : goal.returns-in-Some
returns-in-Some c = first_before c.args.bytes.now c.in-Some.feed c.in-Some.ensures.0 c.in-Some.ensures.1

pub returns-in-None : goal.returns-in-None
returns-in-None c = first_of_one c.args.bytes.now c.in-None.ensures
