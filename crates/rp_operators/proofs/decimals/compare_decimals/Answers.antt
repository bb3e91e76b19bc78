use Rattle.std.proofs.Common.{◌≡◌, ◌∙◌, to_z, of_z, arith}
use Rattle.std.proofs.lemmas.Int.{ints}
use Rattle.std.specs.Ordering.{int_cmp}
use mir.Syntax.{w128}
use Rattle.rp_operators.proofs.Scales.{same_places}
use Rattle.rp_operators.proofs.decimals.compare_decimals.Goals as goal

pub returns-then-exponent : goal.returns-then-exponent
returns-then-exponent c =
    let x = c.args.x.now in
    let y = c.args.y.now in
    let m = to_z w128 (of_z w128 c.coefficient.result) in
    let n = to_z w128 (of_z w128 c.coefficient-then-exponent.result) in
    let of_x : m ≡ x.coefficient = omega (arith, ints, c.coefficient.ensures, c.coefficient.type_inv) in
    let of_y : n ≡ y.coefficient = omega (arith, ints, c.coefficient-then-exponent.ensures, c.coefficient-then-exponent.type_inv) in
    let same : x.exponent ≡ y.exponent = omega (arith, ints, c.exponent.ensures, c.exponent.type_inv, c.exponent-2.ensures, c.exponent-2.type_inv, c.if-exponent.true) in
    c.cmp.ensures ∙ (λ i. int_cmp (of_x i) (of_y i)) ∙ same_places x y same
