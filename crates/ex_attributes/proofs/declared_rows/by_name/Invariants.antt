use Rattle.std.proofs.Common.{◌≡◌, ℕ, List, ◌++◌, map, drop}
use Rattle.ex_attributes.specs.Tables as spec
use Rattle.ex_attributes.proofs.declared_rows.by_name.Given as goal

abbrev pub invariant-loop-place : goal.invariant-loop-place
invariant-loop-place l = (name : List ℕ) → spec.places_at name l.table ++ spec.places_from name l.place (map (λ a. a.name) (drop l.place l.rows)) ≡ spec.places_from name 0 (map (λ a. a.name) l.rows)
