use Rattle.std.proofs.Common.{sym, ◌∙◌, ap, is_some}
use Rattle.ex_warnings.proofs.Names.{none_of_schema, among_names}
use Rattle.ex_warnings.proofs.warned.is_qualified.Goals as goal

pub returns-in-Some : goal.returns-in-Some
returns-in-Some c =
    c.is_some.ensures ∙ ap is_some c.place.ensures
    ∙ sym (among_names c.args.schema.now c.args.text.now c.args.names.now c.in-Some.name.now c.in-Some.ensures)

pub returns-in-None : goal.returns-in-None
returns-in-None c = sym (none_of_schema c.args.schema.now c.args.text.now c.args.names.now c.in-None.ensures)
