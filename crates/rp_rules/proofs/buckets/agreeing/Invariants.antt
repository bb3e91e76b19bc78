use Rattle.std.proofs.Common.{◌≡◌, ◌++◌, drop, filter, map}
use Rattle.std.specs.List.{list_any}
use Rattle.rp_meaning.specs.Report.{agrees, agreeing}
use Rattle.rp_rules.proofs.buckets.agreeing.Given as goal

abbrev pub invariant-loop-row : goal.invariant-loop-row
invariant-loop-row l = l.found ++ map (λ row. row.culprit) (filter (λ row. list_any (agrees row) l.rows) (drop l.row-index l.rows)) ≡ agreeing l.rows
