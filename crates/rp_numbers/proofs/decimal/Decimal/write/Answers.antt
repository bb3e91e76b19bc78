use Rattle.std.proofs.Common.{ap, length, arith}
use Rattle.std.specs.Fmt.{signed_decimal}
use Rattle.rp_numbers.specs.Decimals.{Decimal}
use Rattle.rp_numbers.specs.Written.{power}
use Rattle.rp_numbers.proofs.Rereading.{length-coefficient, length-power, held-coefficient, held-exponent}
use Rattle.rp_numbers.proofs.decimal.Decimal.write.Goals as goal

pub write_signed-requires : goal.write_signed-requires
write_signed-requires c =
    let x : Decimal = record { coefficient = c.self.inside.coefficient; exponent = c.self.inside.exponent } in
    let short = length-coefficient x c.self.invariant in
    let same = ap (λ z. length (signed_decimal z)) (held-coefficient x c.self.invariant) in
    omega (arith, c.in_ok-reserve.ensures.ok)

pub push_reserved-requires : goal.push_reserved-requires
push_reserved-requires c =
    let x : Decimal = record { coefficient = c.self.inside.coefficient; exponent = c.self.inside.exponent } in
    let short = length-coefficient x c.self.invariant in
    let same = ap (λ z. length (signed_decimal z)) (held-coefficient x c.self.invariant) in
    omega (arith, c.in_ok-reserve.ensures.ok)

pub write_power-requires : goal.write_power-requires
write_power-requires c =
    let x : Decimal = record { coefficient = c.self.inside.coefficient; exponent = c.self.inside.exponent } in
    let short = length-coefficient x c.self.invariant in
    let same = ap (λ z. length (signed_decimal z)) (held-coefficient x c.self.invariant) in
    let few = length-power x c.self.invariant in
    let held = ap (λ z. length (power z)) (held-exponent x c.self.invariant) in
    omega (arith, c.in_ok-reserve.ensures.ok)
