use Rattle.std.proofs.Common.{◌≡◌, ◌++◌, drop}
use Rattle.ex_attributes.specs.Steps.{read}
use Rattle.ex_attributes.specs.Tables as spec
use Rattle.ex_attributes.proofs.tables.push_rows_at.Given as goal

abbrev pub invariant-loop-place : goal.invariant-loop-place
invariant-loop-place g l = read l.found.items ++ spec.rows_at l.rows (drop l.place-index l.places) ≡ read l.initial.found.items ++ spec.rows_at l.rows l.places
