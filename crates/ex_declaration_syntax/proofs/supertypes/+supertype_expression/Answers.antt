use Rattle.std.proofs.Common.{rules}
use Rattle.ex_declaration_syntax.proofs.SupertypeLevels.{supertype_expression-is}
use Rattle.ex_declaration_syntax.proofs.supertypes.+supertype_expression.Goals as goal

pub returns-clause-reads : goal.returns-clause-reads
returns-clause-reads t c = rw (supertype_expression-is c.args.levels) (search rules)
