use Rattle.std.proofs.Common.{◌≡◌, drop}
use Rattle.ex_scopes.specs.Attributes.{seen_after}
use Rattle.ex_scopes.specs.Sorts.{admitted}
use Rattle.ex_scopes.proofs.attributes.and_all.Given as goal

abbrev pub invariant-loop-place : goal.invariant-loop-place
invariant-loop-place l = seen_after (admitted l.sorts) l.seen (drop l.place-index l.places) ≡ seen_after (admitted l.sorts) l.fn.before l.places
