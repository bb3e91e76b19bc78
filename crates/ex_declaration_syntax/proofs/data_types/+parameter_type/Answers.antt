use Rattle.std.proofs.Common.{rules, true}
use Rattle.ex_declaration_syntax.proofs.TypeLevels.{data_type-is}
use Rattle.ex_declaration_syntax.proofs.data_types.+parameter_type.Goals as goal

pub returns-clause-reads : goal.returns-clause-reads
returns-clause-reads t c = rw (data_type-is true c.args.levels) (search rules)
