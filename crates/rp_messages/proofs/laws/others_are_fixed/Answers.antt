use Rattle.rp_messages.proofs.Deciding.{others_are_fixed}
use Rattle.rp_messages.proofs.laws.others_are_fixed.Goals as goal

pub returns : goal.returns
returns c = others_are_fixed
