use Rattle.std.proofs.Common.{◌≡◌, filter, drop}
use Rattle.ex_attributes.specs.Attributes as spec
use Rattle.ex_attributes.proofs.declared_rows.kinds_of_first.Given as goal

abbrev pub invariant-loop-row : goal.invariant-loop-row
invariant-loop-row l = spec.kinds_of_first (filter (λ a. spec.same_place a.place l.place) (drop l.row-index l.rows)) ≡ spec.kinds_of_first (filter (λ a. spec.same_place a.place l.place) l.rows)
