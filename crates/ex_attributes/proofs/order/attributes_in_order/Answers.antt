use Rattle.std.proofs.Common.{arith}
use Rattle.ex_attributes.proofs.order.attributes_in_order.Goals as goal

pub returns : goal.returns
returns c = λ _. λ k d low h. c.loop-next.invariant k d (omega (arith, h, c.loop-next-test.false))
