use Rattle.std.proofs.Common.{◌≡◌, length, option_map}
use Rattle.std.specs.Str.{encode_utf8_all}
use Rattle.std.specs.String.{string_bytes}
use Rattle.ex_lex.specs.Strings.{characters}
use Rattle.ex_expressions.proofs.Groups.{read_after}
use Rattle.ex_expressions.proofs.literals.decoded.Given as goal

abbrev pub invariant-groups : goal.invariant-groups
invariant-groups l = read_after (string_bytes l.found) (characters l.left) ≡ option_map encode_utf8_all (characters l.digits)

abbrev pub decreases-groups : goal.decreases-groups
decreases-groups l = length l.left
