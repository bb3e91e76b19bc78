use Rattle.std.proofs.Common.{◌≡◌, ◌∙◌, to_z, of_z, arith}
use Rattle.std.proofs.lemmas.Int.{ints}
use mir.Syntax.{w64}
use Rattle.rp_operators.proofs.Alike.{integers}
use Rattle.rp_operators.proofs.Sights.{whole}
use Rattle.rp_operators.proofs.operators.applied.Goals as goal
use Rattle.rp_operators.specs.Scalars.{of_integers}

pub returns-in-Int-Int : goal.returns-in-Int-Int
returns-in-Int-Int c =
    let k = c.in-Int-Int in
    let m : to_z w64 (of_z w64 k.m) ≡ k.m = omega (arith, ints) in
    let n : to_z w64 (of_z w64 k.n) ≡ k.n = omega (arith, ints) in
    c.of_integers.ensures
    ∙ (λ i. of_integers c.args.operator (m i) (n i))
    ∙ integers c.args.x.now c.args.y.now k.m k.n (whole c.args.x.now k.m k.is-0) (whole c.args.y.now k.n k.is-1) c.args.operator
