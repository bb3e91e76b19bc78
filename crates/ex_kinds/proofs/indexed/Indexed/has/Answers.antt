use Rattle.std.proofs.Common.{sym, ◌∙◌, ap}
use Rattle.std.specs.List.{list_any}
use Rattle.graphs.proofs.Sets.{contained}
use Rattle.ex_kinds.specs.Kinds.{same}
use Rattle.ex_kinds.proofs.Entities.{the_entity}
use Rattle.ex_kinds.proofs.indexed.Indexed.has.Goals as goal

pub returns-in-Some : goal.returns-in-Some
returns-in-Some c =
    let inside = c.self.inside in
    let entity = c.in-Some.entity in
    let itself_is = the_entity c.args.kind entity (sym c.entity_of.ensures ∙ c.in-Some.is) in
    c.contains.ensures ∙ contained inside.entities.keys entity ∙ c.self.invariant entity
    ∙ ap (λ kind. list_any (λ other. same other kind) inside.kinds.items) (sym itself_is)
    ∙ ap (list_any (λ other. same other c.args.kind)) c.self.view_is
