use Rattle.rp_meaning.specs.Levels.{most_turns, bodies}
use Rattle.rp_meaning.proofs.Steadiness.{steady-level, steady-expression, steady-evaluation}
use Rattle.rp_meaning.proofs.laws.limits_only_cut.Goals as goal

pub returns : goal.returns
returns c = record {
  expressions = λ world levels e s. steady-expression world levels (bodies world) (steady-level world most_turns levels) e s;
  bodies = λ world levels body. steady-level world most_turns levels body;
  rules = λ world levels rule itself. steady-evaluation world levels (bodies world) (steady-level world most_turns levels) rule itself;
}
