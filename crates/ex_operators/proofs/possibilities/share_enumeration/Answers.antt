use Rattle.std.proofs.Common.{sym, ◌∙◌}
use Rattle.ex_operators.proofs.Operands.{none_first, none_second}
use Rattle.ex_operators.proofs.possibilities.share_enumeration.Goals.{else-is_enumeration-via-then-is_enumeration+else-is_enumeration-2, else-is_enumeration-via-else-is_enumeration}
use Rattle.ex_operators.proofs.possibilities.share_enumeration.Goals as goal

pub returns-else-is_enumeration : goal.returns-else-is_enumeration
returns-else-is_enumeration c =
    let first = c.args.first.now.possible.enumerations in
    let second = c.args.second.now.possible.enumerations in
    elim c.else-is_enumeration.branch [
      | else-is_enumeration-via-then-is_enumeration+else-is_enumeration-2 w ↦
          sym (none_second first second (sym w.is_enumeration-then-is_enumeration.ensures ∙ w.if-is_enumeration-2.false))
      | else-is_enumeration-via-else-is_enumeration w ↦ sym (none_first first second (sym c.is_enumeration.ensures ∙ w.if-is_enumeration.false))
    ]
