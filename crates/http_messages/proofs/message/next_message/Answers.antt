use Rattle.std.proofs.Common.{arith, length-take}
use Rattle.http_messages.proofs.message.next_message.Goals as goal

pub read_head-requires : goal.read_head-requires
read_head-requires c = rw c.head_part-cut.ensures.cut (omega (arith, length-take 16384 c.args.buf.now))
