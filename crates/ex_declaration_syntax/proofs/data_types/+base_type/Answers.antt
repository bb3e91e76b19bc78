use Rattle.std.proofs.Common.{rules, false}
use Rattle.ex_declaration_syntax.proofs.TypeLevels.{data_type-is}
use Rattle.ex_declaration_syntax.proofs.data_types.+base_type.Goals as goal

pub returns-clause-reads : goal.returns-clause-reads
returns-clause-reads t c = rw (data_type-is false c.args.levels) (search rules)
