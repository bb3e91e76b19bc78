use Rattle.rp_repo.proofs.LineTurns.{lines_are_turns}
use Rattle.rp_repo.proofs.laws.lines_are_turns.Goals as goal

pub returns : goal.returns
returns c = lines_are_turns
