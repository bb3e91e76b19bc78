use Rattle.std.proofs.Common.{◌≡◌, ◌++◌, drop}
use Rattle.std.specs.List.{filter_map}
use Rattle.ex_attributes.specs.Attributes as spec
use Rattle.ex_attributes.specs.Steps.{rows_of}
use Rattle.ex_attributes.proofs.declared_attributes.derived_rows.Given as goal

abbrev pub invariant-loop-derived : goal.invariant-loop-derived
invariant-loop-derived l = rows_of l.rows.items ++ filter_map spec.derived_name (drop l.derived-index l.list) ≡ filter_map spec.derived_name l.list
