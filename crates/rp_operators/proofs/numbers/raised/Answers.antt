use Rattle.std.proofs.Common.{◌≡◌, ◌∙◌, ap, to_z, of_z, arith}
use Rattle.std.proofs.lemmas.Int.{ints}
use Rattle.std.specs.Int.{int_pow}
use mir.Syntax.{w64}
use Rattle.rp_meaning.specs.Operators.{integer}
use Rattle.rp_operators.proofs.Powers.{power_is}
use Rattle.rp_operators.proofs.numbers.raised.Goals as goal

pub returns : goal.returns
returns c =
    let number = to_z w64 (of_z w64 c.args.number) in
    let same : number ≡ c.args.number = omega (arith, ints, c.ranges.number.sfits) in
    c.checked.ensures (int_pow number c.reduced.result) c.checked_pow.ensures
    ∙ ap (λ z. integer (int_pow z c.reduced.result)) same
    ∙ ap integer (power_is c.args.number c.reduced.result)
    ∙ c.reduced.ensures c.args.number
