use Rattle.std.proofs.Common.{arith}
use Rattle.shallow_json.proofs.StringLemmas.{escape_read, escape_passed}
use Rattle.shallow_json.proofs.texts.escape_at.Goals as goal

pub returns-clause-read : goal.returns-clause-read
returns-clause-read c = escape_read c.args.bytes.now c.args.at c.in_ok-meant.meant (grind arith) (grind arith) c.in_ok-meant.ensures.other c.in_ok-meant.ensures.meant

pub returns-clause-passed : goal.returns-clause-passed
returns-clause-passed c = escape_passed c.args.bytes.now c.args.at (grind arith) (grind arith)
