use Rattle.std.proofs.Common.{arith, ◌<◌, ◌≤◌}
use Rattle.http_messages.proofs.Sizes.{room_for_digit}
use Rattle.http_messages.proofs.framing.number.Goals as goal

pub overflow_mul-n : goal.overflow_mul-n
overflow_mul-n c =
    let few : c.loop-b.b-index < 18 = omega arith in
    omega (arith, room_for_digit c.loop-b.n c.loop-b.b-index c.loop-b.invariant.small few)

pub overflow_add-n : goal.overflow_add-n
overflow_add-n c =
    let few : c.loop-b.b-index < 18 = omega arith in
    let digit : c.from.result ≤ 9 = grind (arith, c.if-not-is_ascii_digit.ensures.bound, c.from.ensures) in
    omega (arith, digit, room_for_digit c.loop-b.n c.loop-b.b-index c.loop-b.invariant.small few)
