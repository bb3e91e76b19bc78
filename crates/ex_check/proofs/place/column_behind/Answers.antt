use Rattle.std.proofs.Common.{arith}
use Rattle.ex_check.proofs.Columns.{behind_a_feed, without_a_feed, behind_last, behind_none}
use Rattle.ex_check.proofs.place.column_behind.Goals as goal

pub returns-in-Some : goal.returns-in-Some
returns-in-Some c =
    let z = c.args.bytes.now in
    behind_last z c.args.column _ (omega arith) (behind_a_feed z c.in-Some.feed c.in-Some.ensures.0 c.in-Some.ensures.1)

pub returns-in-None : goal.returns-in-None
returns-in-None c = behind_none c.args.bytes.now c.args.column (without_a_feed c.args.bytes.now c.in-None.ensures)
