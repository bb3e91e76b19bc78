use Rattle.std.proofs.Common.{refl}
use Rattle.http_routes.specs.Answers.{phrase_of}
use Rattle.http_routes.proofs.answers.payload_too_large.Goals as goal

pub returns : goal.returns
unfolding phrase_of
returns c = refl
