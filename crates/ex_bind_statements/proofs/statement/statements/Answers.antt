use Rattle.ex_bind_statements.proofs.Lists.{in_sequence}
use Rattle.ex_bind_statements.proofs.statement.statements.Goals as goal

pub returns : goal.returns
returns c = rw (in_sequence c.args.declarations.now c.args.scope.now c.args.statements.now) c.sequence.ensures
