use Rattle.std.proofs.Common.{refl, ap}
use Rattle.rp_plain.specs.declared.messages.Refusal.TheVariants.{BadRequest}
use Rattle.rp_requests.specs.Asks.{asked_of}
use Rattle.rp_repo.specs.LineRuns.{turn_for, meant_for}
use Rattle.rp_repo.proofs.AnswerLemmas.{if_refused}
use Rattle.rp_repo.proofs.answer.answer_kept.Goals as goal

pub returns-in-Err-BadRequest-clause-made : goal.returns-in-Err-BadRequest-clause-made
returns-in-Err-BadRequest-clause-made c =
    let r = c.args.repository.now.content in
    let none = rw c.in-Err-BadRequest.field-0-is at c.in-Err-BadRequest.ensures.bad in
    if_refused (λ v. v.items) r BadRequest (meant_for r BadRequest (turn_for r.partners (asked_of c.args.line.items))) c.refused.result refl (ap (λ a. meant_for r BadRequest (turn_for r.partners a)) (none refl)) c.refused.ensures
