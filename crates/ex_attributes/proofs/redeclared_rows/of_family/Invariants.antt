use Rattle.std.proofs.Common.{◌≡◌, ◌++◌, filter, drop}
use Rattle.plain_data.specs.Numbers.{is_among}
use Rattle.ex_attributes.specs.Steps.{read}
use Rattle.ex_attributes.proofs.redeclared_rows.of_family.Given as goal

abbrev pub invariant-loop-row : goal.invariant-loop-row
invariant-loop-row l = read l.found.items ++ filter (λ r. is_among l.family r.entity) (read (drop l.row-index l.rows)) ≡ filter (λ r. is_among l.family r.entity) (read l.rows)
