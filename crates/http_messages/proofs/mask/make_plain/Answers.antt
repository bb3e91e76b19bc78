use Rattle.std.proofs.Common.{arith}
use Rattle.http_messages.proofs.Places.{plain_all}
use Rattle.http_messages.proofs.mask.make_plain.Goals as goal

pub returns : goal.returns
returns c = plain_all c.args.target.now _ (omega arith) (λ k p. c.loop-byte.invariant.0 k (omega arith))
