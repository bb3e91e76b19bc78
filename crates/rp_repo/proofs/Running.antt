-- A run goes on by one call.
use Rattle.std.proofs.Common.{◌≡◌, List, [], ◌∷◌, get_or, ap, subst}
use Rattle.rp_plain.specs.declared.messages.Reply.{Reply}
use Rattle.rp_plain.specs.Plain.{Plain}
use Rattle.rp_plain.specs.Runs.{MayReply}
use Rattle.rp_plain.specs.Turns.{effect, after, Run}
use Rattle.rp_core.specs.Held.{turn}
use Rattle.rp_repo.specs.declared.repository.Call.{Call}
use Rattle.rp_repo.specs.Calls.{turns_of}

pub run_more : (now start next end : Plain) (call : Call) (rest : List Call) (reply : Reply) (more : List Reply) → now.partners ≡ start.partners
    → MayReply (effect now (turn now call.caller call.request)) reply → next ≡ after now (turn now call.caller call.request) reply
    → Run next (turns_of start rest) more end → Run now (turns_of start (call ∷ rest)) (reply ∷ more) end
run_more now start next end call rest reply more same may is run =
    let here : turn now call.caller call.request ≡ turn start call.caller call.request = ap (λ ps. record { caller = get_or ps call.caller []; request = call.request }) same in
    (subst (λ t. MayReply (effect now t) reply) here may, subst (λ t. Run (after now t reply) (turns_of start rest) more end) here (subst (λ r. Run r (turns_of start rest) more end) is run))
