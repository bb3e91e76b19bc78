use Rattle.rp_messages.proofs.Deciding.{head_decides}
use Rattle.rp_messages.proofs.laws.heads_decide.Goals as goal

pub returns : goal.returns
returns c = head_decides
