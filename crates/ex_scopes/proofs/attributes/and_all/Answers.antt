use Rattle.std.proofs.Common.{sym, ◌∙◌, drop}
use Rattle.ex_scopes.specs.Sorts.{admitted}
use Rattle.ex_scopes.proofs.Told.{settled}
use Rattle.ex_scopes.proofs.attributes.and_all.Goals as goal

pub returns-then-is_settled : goal.returns-then-is_settled
returns-then-is_settled c = sym (settled (admitted c.args.sorts) c.loop-place.seen (drop c.loop-place.place-index c.args.places.now) (sym c.is_settled.ensures ∙ c.if-is_settled.true)) ∙ c.loop-place.invariant
