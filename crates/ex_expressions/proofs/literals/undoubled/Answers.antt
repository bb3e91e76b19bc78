use Rattle.std.proofs.Common.{rules, arith}
use Rattle.std.proofs.lemmas.Grind.{common_steps}
use Rattle.std.proofs.lemmas.List.{at_drop_more}
use Rattle.ex_expressions.specs.Literals.{undoubled}
use Rattle.ex_expressions.proofs.literals.undoubled.Goals as goal
use Rattle.ex_expressions.proofs.literals.undoubled.Goals.{then-is_second, else-is_second+in_ok-push}

pub bytes-preserved : goal.bytes-preserved
bytes-preserved c =
    let turn = at_drop_more (undoubled c.bytes.is_second) c.args.bytes.now c.bytes.byte-index 0 c.bytes-test.true in
    elim c.if-is_second.branch [
      | then-is_second w ↦ first_of (search rules, grind (arith, common_steps))
      | else-is_second+in_ok-push w ↦ first_of (search rules, grind (arith, common_steps))
    ]
