use Rattle.rp_use_laws.proofs.Instances.{valid_extents_agree}
use Rattle.rp_use_laws.proofs.extents.extent_replies_agree.Goals as goal

pub returns : goal.returns
returns c = valid_extents_agree c.args.schemas.now c.all_bound.ensures
