use Rattle.rp_meaning.specs.Levels.{bodies, most_turns}
use Rattle.rp_meaning.proofs.Kept.{serves}
use Rattle.rp_meaning.proofs.Steadiness.{steady-level}
use Rattle.rp_meaning.proofs.laws.kept_values_serve.Goals as goal

pub returns : goal.returns
returns c = λ world levels others body old new k a t. serves (λ l. bodies world l body) (λ l. steady-level world most_turns l body) levels others old new k a t
