use Rattle.std.proofs.Common.{◌≡◌, ◌≤◌, ◌∙◌, Some, length, take, rules}
use Rattle.std.specs.String.{string_bytes}
use Rattle.ex_lex.specs.Strings.{character}
use Rattle.ex_expressions.proofs.Groups.{read-good}
use Rattle.ex_expressions.proofs.literals.decoded.Goals as goal

pub groups-preserved : goal.groups-preserved
groups-preserved c =
    let left = c.groups.left.now in
    let long : 8 ≤ length left = search rules in
    let good : character (take 8 left) ≡ Some c.in-Some.next = rw (← c.split_at.ensures.front) (search rules) in
    let turn = read-good (string_bytes c.groups.found) left c.in-Some.next long good in
    rw c.split_at.ensures.back (rw c.in_ok-push.ensures.bytes (turn ∙ c.groups.invariant))
