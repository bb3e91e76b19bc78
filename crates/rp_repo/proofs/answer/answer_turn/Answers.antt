use Rattle.rp_core.specs.Held.{turn}
use Rattle.rp_repo.proofs.AnswerLemmas.{if_prepared}
use Rattle.rp_repo.proofs.answer.answer_turn.Goals as goal

pub returns-clause-made : goal.returns-clause-made
returns-clause-made c =
    let r = c.args.repository.now.content in
    if_prepared (λ v. v.items) r c.prepare-pending.new.self c.answer_prepared.new.repository.content (turn r c.args.partner c.args.request) c.prepare-pending.result c.answer_prepared.result
    c.prepare-pending.ensures.prepared c.prepare-pending.ensures.content c.answer_prepared.ensures.made c.answer_prepared.ensures.changed
