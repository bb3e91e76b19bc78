use Rattle.std.proofs.Common.{◌≡◌, ◌++◌, drop}
use Rattle.std.specs.List.{flat_map}
use Rattle.p21_values.specs.Tokens as spec
use Rattle.p21_values.proofs.tokens.all_bits.Given as goal

abbrev pub invariant-loop-digit : goal.invariant-loop-digit
invariant-loop-digit l =
    l.bits.items ++ flat_map spec.bits_of_digit (drop l.digit-index l.digits) ≡ flat_map spec.bits_of_digit l.digits
