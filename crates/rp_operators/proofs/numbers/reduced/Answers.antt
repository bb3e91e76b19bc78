use Rattle.std.proofs.Common.{arith}
use Rattle.rp_operators.proofs.Powers.{reduces}
use Rattle.rp_operators.proofs.numbers.reduced.Goals as goal

pub returns-then-exponent-eq0 : goal.returns-then-exponent-eq0
returns-then-exponent-eq0 c = λ x. reduces x 64 c.args.exponent (omega arith) (omega (arith, c.if-exponent-lt64.false)) (omega (arith, c.if-exponent-eq0.true))

pub returns-else-exponent-eq0 : goal.returns-else-exponent-eq0
returns-else-exponent-eq0 c = λ x. reduces x 65 c.args.exponent (omega arith) (omega (arith, c.if-exponent-lt64.false)) (omega (arith, c.if-exponent-eq0.false))
