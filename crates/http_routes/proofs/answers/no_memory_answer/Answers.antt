use Rattle.std.proofs.Common.{refl}
use Rattle.std.specs.Fmt.{digits}
use Rattle.http_routes.specs.Answers.{phrase_of}
use Rattle.http_routes.proofs.answers.no_memory_answer.Goals as goal

pub returns : goal.returns
unfolding phrase_of digits
returns c = refl
