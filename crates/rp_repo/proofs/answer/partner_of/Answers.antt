use Rattle.rp_repo.proofs.AnswerLemmas.{if_partner}
use Rattle.rp_repo.proofs.answer.partner_of.Goals as goal

pub returns : goal.returns
returns c = rw c.in_ok-name.was (if_partner c.args.repository.now.content.partners c.in_ok-name.name c.caller.result c.caller.ensures)
