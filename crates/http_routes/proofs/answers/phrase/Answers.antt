use Rattle.std.proofs.Common.{refl}
use Rattle.http_routes.specs.Answers.{phrase_of}
use Rattle.http_routes.proofs.answers.phrase.Goals as goal

pub returns-in-Some : goal.returns-in-Some
unfolding phrase_of
returns-in-Some c = rw (← c.canonical_reason.ensures.value, c.in-Some.is) refl

pub returns-in-None : goal.returns-in-None
unfolding phrase_of
returns-in-None c = rw (← c.canonical_reason.ensures.value, c.in-None.is) refl
