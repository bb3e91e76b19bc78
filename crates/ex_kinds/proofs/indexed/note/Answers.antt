use Rattle.std.proofs.Common.{sym, ◌∙◌}
use Rattle.graphs.proofs.Sets.{inserted}
use Rattle.ex_kinds.proofs.Entities.{of_one}
use Rattle.ex_kinds.proofs.indexed.note.Goals as goal

pub returns-in_ok-insert-clause-ok : goal.returns-in_ok-insert-clause-ok
returns-in_ok-insert-clause-ok c = λ kinds are.
    let before = c.args.entities.now.keys in
    let after = c.insert.new.self.keys in
    let entity = c.in-Some.entity in
    of_one before after kinds c.args.kind entity (sym c.entity_of.ensures ∙ c.in-Some.is) (inserted before after entity c.in_ok-insert.ensures.keys) are
