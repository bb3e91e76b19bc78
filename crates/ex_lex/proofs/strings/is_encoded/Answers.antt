use Rattle.std.proofs.Common.{◌≡◌, ◌≤◌, ◌∙◌, sym, length, take, true, rules}
use Rattle.std.specs.Option.{is_some}
use Rattle.ex_lex.specs.Strings.{character}
use Rattle.ex_lex.proofs.Text.{characters-group}
use Rattle.ex_lex.proofs.strings.is_encoded.Goals as goal

pub groups-preserved : goal.groups-preserved
groups-preserved c =
    let left = c.groups.left.now in
    let long : 8 ≤ length left = search rules in
    let some : is_some (character (take 8 left)) ≡ true = rw (← c.split_at.ensures.front) (cc) in
    rw c.split_at.ensures.back (sym (characters-group left long some) ∙ c.groups.invariant)
