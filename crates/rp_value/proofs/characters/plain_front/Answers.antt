use Rattle.std.proofs.Common.{◌≡◌, ◌+◌, ◌-◌, take, drop, ap, arith}
use Rattle.rp_value.proofs.Ends.{begun, begun-add}
use Rattle.rp_value.proofs.characters.plain_front.Goals as goal

pub loop-plain-preserved : goal.loop-plain-preserved
loop-plain-preserved c =
    let text = c.args.text.now in
    let plain = c.loop-plain.plain in
    let size = c.min-size.result in
    let part : plain + size - plain ≡ size = omega arith in
    let counted = ap (λ n. begun (take n (drop plain text))) part in
    (omega (arith, c.min-size.ensures), omega (arith, begun-add text plain size, counted, c.character_count.ensures, c.if-character_count-size.false, c.loop-plain.invariant.1))
