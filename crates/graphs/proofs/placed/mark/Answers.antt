use Rattle.std.proofs.Common.{arith}
use Rattle.graphs.proofs.Placing.{marked, passed}
use Rattle.graphs.proofs.placed.mark.Goals as goal

pub returns-then-member-marks : goal.returns-then-member-marks
returns-then-member-marks c = λ placed all. marked c.args.marks.now placed c.args.member (omega arith) all

pub returns-else-member-marks : goal.returns-else-member-marks
returns-else-member-marks c = λ placed all. passed c.args.marks.now placed c.args.member (λ less. omega arith) all
