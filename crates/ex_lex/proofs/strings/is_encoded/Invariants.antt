use Rattle.std.proofs.Common.{◌≡◌, length}
use Rattle.std.specs.Option.{is_some}
use Rattle.ex_lex.specs.Strings.{characters}
use Rattle.ex_lex.proofs.strings.is_encoded.Given as goal

abbrev pub invariant-groups : goal.invariant-groups
invariant-groups l = is_some (characters l.left) ≡ is_some (characters l.inside)

abbrev pub decreases-groups : goal.decreases-groups
decreases-groups l = length l.left
