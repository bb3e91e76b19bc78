use Rattle.std.proofs.Common.{◌≡◌, drop, map, ◌++◌}
use Rattle.ex_slots.specs.Slots as slots
use Rattle.rp_plain.specs.Reports.{attribute_text}
use Rattle.rp_reports.specs.Names as spec
use Rattle.rp_reports.proofs.attributes.names_of.Given as goal

abbrev pub invariant-loop-name : goal.invariant-loop-name
invariant-loop-name l = l.names ++ map (attribute_text l.entity) (slots.rows_of (drop l.name-index l.name-items)) ≡ spec.names_of l.entity
