use Rattle.std.proofs.Common.{refl}
use Rattle.http_routes.specs.Answers.{phrase_of}
use Rattle.http_routes.proofs.answers.not_implemented.Goals as goal

pub returns : goal.returns
unfolding phrase_of
returns c = refl
