use Rattle.rp_operators.proofs.Texts.{nothing_more}
use Rattle.rp_operators.proofs.naming.push_number.Goals as goal

pub returns-in-None : goal.returns-in-None
returns-in-None c = nothing_more c.args.texts.now c.args.number c.args.found.now c.in-None.ensures.value
