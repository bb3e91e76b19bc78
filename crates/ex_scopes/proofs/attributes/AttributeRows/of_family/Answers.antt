use Rattle.name_tables.specs.Names.{named}
use Rattle.ex_named.specs.declared.reference.AttributePlace.{AttributePlace}
use Rattle.ancestors.proofs.InTurn.{of_members}
use Rattle.ex_scopes.proofs.Runs.{said_to_rise}
use Rattle.ex_scopes.proofs.attributes.AttributeRows.of_family.Goals as goal

pub of_each-requires : goal.of_each-requires
of_each-requires c = rw c.get-places.ensures (said_to_rise (λ (a : AttributePlace). a.entity) c.self.inside.is_ascending c.self.inside.last_entity c.self.inside.rows c.args.name.now c.self.invariant c.if-self.true)

pub returns-in-Some : goal.returns-in-Some
returns-in-Some c =
    let exact = rw c.in-Some.is at c.in_ok-members.ensures.exact in
    let ascending = rw c.in-Some.is at c.in_ok-members.ensures.ascending in
    let rises = said_to_rise (λ (a : AttributePlace). a.entity) c.self.inside.is_ascending c.self.inside.last_entity c.self.inside.rows c.args.name.now c.self.invariant c.if-self.true in
    rw (← c.self.view_is, ← of_members (λ (a : AttributePlace). a.entity) c.in-Some.members.items c.args.family.now (named c.args.name.now c.self.inside.rows) exact ascending rises, ← c.get-places.ensures, ← c.deref.ensures.value) c.of_each.ensures
