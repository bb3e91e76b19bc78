use Rattle.std.proofs.Common.{◌≡◌, ◌++◌, drop, filter}
use Rattle.plain_data.specs.Numbers.{is_among}
use Rattle.ex_scopes.proofs.attributes.declared_in.Given as goal

abbrev pub invariant-loop-place : goal.invariant-loop-place
invariant-loop-place l = l.found.items ++ filter (λ a. is_among l.family a.entity) (drop l.place-index l.places) ≡ filter (λ a. is_among l.family a.entity) l.places
