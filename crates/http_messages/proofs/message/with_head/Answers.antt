use Rattle.std.proofs.Common.{◌≤◌, length, ap, arith, length-take}
use Rattle.http_messages.proofs.message.with_head.Goals as goal

pub slice_bounds-text-end : goal.slice_bounds-text-end
slice_bounds-text-end c =
    let short : length c.args.cut.now ≤ 16384 = rw c.requires.cut (omega (arith, length-take 16384 c.args.buf.now)) in
    omega (arith, short, length-take (length c.args.cut.now) c.deref.result.now, ap length c.deref.ensures.value, c.args.scratch.now.room.1)
