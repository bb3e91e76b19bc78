use Rattle.std.proofs.Common.{List, ℕ, Some, refl, sym, ap, subst}
use Rattle.std.specs.Prelude.{IfOk, option_map}
use Rattle.rp_plain.specs.declared.messages.Refusal.TheVariants.{BadRequest}
use Rattle.rp_plain.specs.Runs.{Effect}
use Rattle.rp_plain.specs.Turns.{Turn}
use Rattle.rp_repo.specs.LineRuns.{turn_for, meant_for, Answers}
use Rattle.rp_repo.proofs.AnswerLemmas.{if_refused}
use Rattle.rp_repo.proofs.answer.answer_asked.Goals as goal

pub returns-in-None-clause-made : goal.returns-in-None-clause-made
returns-in-None-clause-made c =
    let r = c.args.repository.now.content in
    let asked = c.args.asked in
    let turn : List ℕ → Turn = λ p. record { caller = p; request = asked.request } in
    if_refused (λ v. v.items) r BadRequest (meant_for r BadRequest (turn_for r.partners (Some asked))) c.refused.result refl (ap (λ o. meant_for r BadRequest (option_map turn o)) c.in-None.ensures) c.refused.ensures

pub returns-in-Some-clause-made : goal.returns-in-Some-clause-made
returns-in-Some-clause-made c =
    let r = c.args.repository.now.content in
    let asked = c.args.asked in
    let turn : List ℕ → Turn = λ p. record { caller = p; request = asked.request } in
    subst (λ (m : Effect). IfOk c.answer_turn.result (λ bytes. Answers r c.answer_turn.new.repository.content m bytes.items)) (sym (ap (λ o. meant_for r BadRequest (option_map turn o)) c.in-Some.ensures.1)) c.answer_turn.ensures.made
