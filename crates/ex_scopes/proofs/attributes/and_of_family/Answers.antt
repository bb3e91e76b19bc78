use Rattle.std.proofs.Common.{sym, ◌∙◌, drop, filter}
use Rattle.plain_data.specs.Numbers.{is_among}
use Rattle.ex_named.specs.declared.reference.AttributePlace.{AttributePlace}
use Rattle.ex_scopes.specs.Sorts.{admitted}
use Rattle.ex_scopes.proofs.Told.{settled}
use Rattle.ex_scopes.proofs.attributes.and_of_family.Goals as goal

pub returns-then-is_settled : goal.returns-then-is_settled
returns-then-is_settled c = sym (settled (admitted c.args.sorts) c.loop-place.seen (filter (λ (a : AttributePlace). is_among c.args.family.now a.entity) (drop c.loop-place.place-index c.args.places.now)) (sym c.is_settled.ensures ∙ c.if-is_settled.true)) ∙ c.loop-place.invariant
