use Rattle.std.proofs.Common.{◌≡◌, ◌++◌, filter, drop}
use Rattle.plain_data.specs.Numbers.{is_among}
use Rattle.ex_attributes.specs.Steps.{read}
use Rattle.ex_attributes.proofs.declared_rows.of_family.Given as goal

abbrev pub invariant-loop-row : goal.invariant-loop-row
invariant-loop-row l = read l.found.items ++ filter (λ a. is_among l.family a.place.entity) (read (drop l.row-index l.rows)) ≡ filter (λ a. is_among l.family a.place.entity) (read l.rows)
