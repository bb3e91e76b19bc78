use Rattle.rp_use_laws.proofs.Agreeing.{agree}
use Rattle.rp_use_laws.proofs.users_agree.Goals as goal

pub returns : goal.returns
returns c = agree c.args.schema.now c.bound.ensures
