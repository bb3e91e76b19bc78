use Rattle.rp_use_laws.proofs.Instances as laws
use Rattle.rp_use_laws.proofs.extents.extents_agree.Goals as goal

pub returns : goal.returns
returns c = laws.extents_agree c.args.schema.now c.bound.ensures
