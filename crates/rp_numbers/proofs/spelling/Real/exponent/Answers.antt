use Rattle.std.proofs.Common.{◌≡◌, ◌<◌, ◌^◌, ap, sym, length, drop, arith, ℤ, ◌+ℤ◌, ◌-ℤ◌, ◌-◌, to_z, of_z}
use mir.Syntax.{w128}
use Rattle.rp_numbers.specs.Whole.{value}
use Rattle.rp_numbers.specs.Spelling.{Real, exponent, is_negative, sign_len, zeros}
use Rattle.rp_numbers.proofs.Exponents.{far, refused, given, near, sum}
use Rattle.rp_numbers.proofs.spelling.Real.exponent.Goals as goal

pub returns-in_default : goal.returns-in_default
unfolding exponent
returns-in_default c =
    let r = c.args.self.now in
    let z = c.zeros-before in
    let whole : c.self.inside.whole.now ≡ r.whole = ap (λ (r : Real). r.whole) c.self.view_is in
    let fraction : c.self.inside.fraction.now ≡ r.fraction = ap (λ (r : Real). r.fraction) c.self.view_is in
    let power : c.self.inside.power.now ≡ r.power = ap (λ (r : Real). r.power) c.self.view_is in
    let short : length r.fraction < 2 ^ 64 = rw fraction at c.self.told.1.0 in
    let few : length r.whole < 2 ^ 64 = rw whole at c.self.told.0.0 in
    let large = rw power at c.in_default.ensures in
    refused (exponent r)
    (far (is_negative r.power) (value (drop (sign_len r.power) r.power)) (length r.fraction) (zeros r) large short
    (omega (arith, z.ensures.all, z.ensures.before, z.ensures.behind)))

pub returns : goal.returns
unfolding exponent
returns c =
    let r = c.args.self.now in
    let z = c.zeros-before in
    let fraction : c.self.inside.fraction.now ≡ r.fraction = ap (λ (r : Real). r.fraction) c.self.view_is in
    let whole : c.self.inside.whole.now ≡ r.whole = ap (λ (r : Real). r.whole) c.self.view_is in
    let few : length r.whole < 2 ^ 64 = rw whole at c.self.told.0.0 in
    let power : c.self.inside.power.now ≡ r.power = ap (λ (r : Real). r.power) c.self.view_is in
    let short : length r.fraction < 2 ^ 64 = rw fraction at c.self.told.1.0 in
    let narrowed = rw fraction at c.narrowed.ensures in
    let power_is = rw power at c.in-Some.ensures in
    let reach = near (is_negative r.power) (value (drop (sign_len r.power) r.power)) c.in-Some.power power_is.1 power_is.0 in
    let at : ℤ =
    to_z w128 (of_z w128 (to_z w128 (of_z w128 (to_z w128 (of_z w128 c.in-Some.power) -ℤ to_z w128 (length r.fraction - z.result.1))) +ℤ to_z w128 z.result.0)) in
    let total = sum c.in-Some.power (length r.fraction) z.result.1 z.result.0 (zeros r) reach z.ensures.behind short (omega (arith, z.ensures.before, few)) z.ensures.all in
    let is : at ≡ exponent r = rw (sym power_is.0) total in
    given at (exponent r) c.narrowed.result narrowed is
