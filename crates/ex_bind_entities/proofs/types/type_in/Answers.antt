use Rattle.std.proofs.Common.{rules}
use Rattle.ex_bind_entities.proofs.Parts.{type_by}
use Rattle.ex_bind_entities.proofs.types.type_in.Goals as goal

pub returns-in_err-underlying : goal.returns-in_err-underlying
returns-in_err-underlying c = λ held is. rw (type_by c.args.declarations.now held c.args.number c.args.is_cyclic c.args.type_declaration.now is) (search rules)

pub returns : goal.returns
returns c = λ held is. rw (type_by c.args.declarations.now held c.args.number c.args.is_cyclic c.args.type_declaration.now is) (search rules)
