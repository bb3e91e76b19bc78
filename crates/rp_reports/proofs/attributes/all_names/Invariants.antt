use Rattle.std.proofs.Common.{◌≡◌, drop, map, ◌++◌}
use Rattle.rp_reports.specs.Names as spec
use Rattle.rp_reports.proofs.attributes.all_names.Given as goal

abbrev pub invariant-loop-entity : goal.invariant-loop-entity
invariant-loop-entity l = l.names ++ map spec.names_of (drop l.entity-index l.entities) ≡ map spec.names_of l.entities
