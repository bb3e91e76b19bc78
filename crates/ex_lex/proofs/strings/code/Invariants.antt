use Rattle.std.proofs.Common.{◌≡◌, ◌<◌, ◌^◌, take}
use Rattle.std.specs.Str.Parse.{digits_value}
use Rattle.ex_lex.proofs.strings.code.Given as goal

abbrev pub invariant-digits : goal.invariant-digits
invariant-digits l = (l.value ≡ digits_value 16 (take l.b-index l.digits)) × (l.value < 16 ^ l.b-index)
