use Rattle.rp_repo.proofs.AnswerLemmas.{if_too_large, if_kept}
use Rattle.rp_repo.proofs.answer.answer.Goals as goal

pub returns-in-TooLarge-clause-made : goal.returns-in-TooLarge-clause-made
returns-in-TooLarge-clause-made c =
    if_too_large (λ v. v.items) c.args.repository.now.content c.args.room c.args.kept.items c.refused.result c.in-TooLarge.is c.refused.ensures

pub returns-in-Kept-clause-made : goal.returns-in-Kept-clause-made
returns-in-Kept-clause-made c =
    if_kept (λ v. v.items) c.args.repository.now.content c.answer_kept.new.repository.content c.args.room c.args.kept.items c.answer_kept.result c.in-Kept.is c.answer_kept.ensures.made
