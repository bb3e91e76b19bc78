use Rattle.ex_named.specs.declared.reference.EnumerationItem.{EnumerationItem}
use Rattle.ex_scopes.proofs.Runs.{said_to_rise}
use Rattle.ex_scopes.proofs.items.ItemRows.of_type.Goals as goal

pub first_of_type-requires : goal.first_of_type-requires
first_of_type-requires c = rw c.get-items.ensures (said_to_rise (λ (i : EnumerationItem). i.type_number) c.self.inside.is_ascending c.self.inside.last_type c.self.inside.rows c.args.name.now c.self.invariant c.if-self.true)
