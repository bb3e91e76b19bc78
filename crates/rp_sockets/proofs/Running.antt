-- Runs of messages one after another.
use Rattle.std.proofs.Common.{ℕ, List, [], ◌∷◌, ◌++◌, refl, subst}
use Rattle.http_messages.specs.Next.{Call}
use Rattle.rp_plain.specs.Plain.{Plain}
use Rattle.rp_messages.specs.Answers.{Answer}
use Rattle.rp_messages.specs.Meaning.{meant, left_by, MessageRun}
use Rattle.rp_http.specs.Turns.{Leaves}

run_more : (tokens : List (List ℕ)) (r mid end : Plain) (cs ds : List Call) (told more : List Answer) → MessageRun tokens r cs told mid → MessageRun tokens mid ds more end
    → MessageRun tokens r (cs ++ ds) (told ++ more) end
run_more tokens r mid end [] ds [] more first second = subst (λ s. MessageRun tokens s ds more end) first second
run_more tokens r mid end [] ds (a ∷ told) more first second = absurd first
run_more tokens r mid end (c ∷ cs) ds [] more first second = absurd first
run_more tokens r mid end (c ∷ cs) ds (a ∷ told) more first second = (first.0, run_more tokens (left_by r (meant tokens r c) a) mid end cs ds told more first.1 second)

pub leaves_none : (tokens : List (List ℕ)) (r : Plain) → Leaves tokens r r
leaves_none tokens r = ([], [], refl)

pub leaves_more : (tokens : List (List ℕ)) (r mid end : Plain) → Leaves tokens r mid → Leaves tokens mid end → Leaves tokens r end
leaves_more tokens r mid end first second = (first.0 ++ second.0, first.1 ++ second.1, run_more tokens r mid end first.0 second.0 first.1 second.1 first.2 second.2)
