-- Messages lead on, and the partners stay.
use Rattle.std.proofs.Common.{◌≡◌, ℕ, List, [], ◌∷◌, refl, ap, ◌∙◌}
use Rattle.rp_plain.specs.Plain.{Plain}
use Rattle.http_messages.specs.Next.{Call}
use Rattle.rp_messages.specs.Answers.{Answer}
use Rattle.rp_messages.specs.Meaning.{meant_by, meant, left_by, MessageRun}
use Rattle.rp_messages.specs.Routing.{Routed, routed}
use Rattle.rp_messages.proofs.Partners.{message_partners}
use Rattle.rp_messages.specs.declared.routing.Asked.{Asked}
use Rattle.rp_messages.specs.declared.routing.Unrouted.{Unrouted}
use Rattle.std.specs.Prelude.{Result}
use Rattle.rp_http.specs.Turns.{Answers, IsRouted, Leaves}

pub leaves_none : (tokens : List (List ℕ)) (r : Plain) → Leaves tokens r r
leaves_none tokens r = ([], [], refl)

pub leaves_one : (tokens : List (List ℕ)) (old new : Plain) (call : Call) (bytes : List ℕ) (asked : Result Asked Unrouted)
    → ((found : Routed) → IsRouted found asked → Answers old new (meant_by old found) bytes) → IsRouted (routed tokens call) asked → Leaves tokens old new
leaves_one tokens old new call bytes asked answers found =
    let told = answers (routed tokens call) found in
    (call ∷ [], told.answer ∷ [], (told.may, told.content))

run_partners : (tokens : List (List ℕ)) (r end : Plain) (calls : List Call) (answers : List Answer) → MessageRun tokens r calls answers end → end.partners ≡ r.partners
run_partners tokens r end [] [] run = ap (λ p. p.partners) run
run_partners tokens r end [] (a ∷ more) run = absurd run
run_partners tokens r end (c ∷ cs) [] run = absurd run
run_partners tokens r end (c ∷ cs) (a ∷ more) run = run_partners tokens (left_by r (meant tokens r c) a) end cs more run.1 ∙ message_partners tokens r c a

pub leaves_partners : (tokens : List (List ℕ)) (old new : Plain) → Leaves tokens old new → new.partners ≡ old.partners
leaves_partners tokens old new leaves = run_partners tokens old new leaves.0 leaves.1 leaves.2
