use Rattle.std.proofs.Common.{◌≡◌, pos, ◌^◌, ◌*ℤ◌, ◌∙◌, to_z, of_z, arith}
use Rattle.std.proofs.lemmas.Int.{ints}
use Rattle.std.specs.Ordering.{int_cmp}
use mir.Syntax.{w128}
use Rattle.rp_operators.proofs.Scales.{whole_scaled}
use Rattle.rp_operators.proofs.decimals.compare_with_whole.Goals as goal

pub returns : goal.returns
returns c =
    let z = to_z w128 (of_z w128 c.from.result) in
    let n = to_z w128 (of_z w128 c.coefficient.result) in
    let same : z ≡ c.args.y = omega (arith, ints, c.from.ensures, c.from.type_inv, c.ranges.y.sfits) in
    let is : n ≡ c.args.x.now.coefficient = omega (arith, ints, c.coefficient.ensures, c.coefficient.type_inv) in
    c.compare_signed.ensures ∙ (λ i. int_cmp (is i *ℤ pos (10 ^ c.places.ensures i)) (whole_scaled c.args.y z same i))
