use Rattle.ex_statements.proofs.Levels.{level-is}
use Rattle.ex_statements.proofs.statement.+levels.Goals as goal

pub returns-clause-reads : goal.returns-clause-reads
returns-clause-reads t c = rw (level-is c.args.levels c.args.place) c.statement.ensures.reads
