-- Numbers of 64 bits with a sign as values of INTEGER.
use Rattle.std.proofs.Common.{◌≡◌, ℤ, pos, negsuc, FitsSigned, arith}
use mir.Syntax.{w64}
use Rattle.std.proofs.lemmas.Int.{ints}
use Rattle.std.proofs.lemmas.Bool.Decides.{nat_tests}
use Rattle.rp_meaning.specs.Operators.{integer}
use Rattle.rp_value.specs.declared.value.Value.TheVariants as v

pub integer_fits : (z : ℤ) → FitsSigned w64 z → integer z ≡ v.Int z
integer_fits (pos n) fits = grind (arith, ints, nat_tests)
integer_fits (negsuc n) fits = grind (arith, ints, nat_tests)

pub integer_beyond : (z : ℤ) → (FitsSigned w64 z → ⊥) → integer z ≡ v.Indet
integer_beyond (pos n) beyond = grind (arith, ints, nat_tests)
integer_beyond (negsuc n) beyond = grind (arith, ints, nat_tests)

pub ruleset integers = (integer_fits, integer_beyond)
