use Rattle.std.proofs.Common.{length, ap, arith}
use Rattle.rp_content.proofs.instances.Instances.spare.Goals as goal

pub room_beside-requires : goal.room_beside-requires
room_beside-requires c = c.len.ensures.small

pub returns : goal.returns
returns c = omega (arith, c.len.ensures.len, c.room_beside.ensures, c.in_ok-items.ensures.capacity, ap length c.self.view_is)
