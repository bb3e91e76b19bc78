use Rattle.std.proofs.Common.{◌≡◌, ℕ, List, ◌++◌}
use Rattle.ex_attributes.specs.Tables as spec
use Rattle.ex_attributes.proofs.tables.places_by_key.Given as goal

abbrev pub invariant-loop-place : goal.invariant-loop-place
invariant-loop-place l = (key : List ℕ) → spec.places_at key l.table ++ spec.places_from key l.place-iterator.count l.place-iterator.iter.rest.items ≡ spec.places_from key 0 l.fn.keys.items
