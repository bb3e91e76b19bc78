use Rattle.std.proofs.Common.{◌≡◌, drop}
use Rattle.rp_numbers.specs.Whole.{value_after}
use Rattle.rp_numbers.proofs.whole.short_after.Given as goal

abbrev pub invariant-digits : goal.invariant-digits
invariant-digits l = value_after l.value (drop l.digit-index l.digits) ≡ value_after l.start l.digits
