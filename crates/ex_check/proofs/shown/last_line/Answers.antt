use Rattle.ex_check.proofs.Lines.{last_behind, last_of_one}
use Rattle.ex_check.proofs.shown.last_line.Goals as goal

pub returns-in-Some : goal.returns-in-Some
returns-in-Some c = last_behind c.args.bytes.now c.in-Some.feed c.in-Some.ensures.0 c.in-Some.ensures.1

pub returns-in-None : goal.returns-in-None
returns-in-None c = last_of_one c.args.bytes.now c.in-None.ensures
