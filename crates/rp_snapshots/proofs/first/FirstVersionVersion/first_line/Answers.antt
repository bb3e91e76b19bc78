use Rattle.rp_snapshots.proofs.FirstLine.{of_first}
use Rattle.rp_snapshots.proofs.first.FirstVersionVersion.first_line.Goals as goal

pub returns : goal.returns
returns c = of_first
