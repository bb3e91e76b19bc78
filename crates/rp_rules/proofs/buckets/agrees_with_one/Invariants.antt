use Rattle.std.proofs.Common.{◌≡◌, drop}
use Rattle.std.specs.List.{list_any}
use Rattle.rp_meaning.specs.Report.{agrees}
use Rattle.rp_faults.specs.Buckets.{all_now}
use Rattle.rp_rules.proofs.buckets.agrees_with_one.Given as goal

abbrev pub invariant-loop-other : goal.invariant-loop-other
invariant-loop-other l = list_any (agrees l.row) (all_now (drop l.other-index l.others)) ≡ list_any (agrees l.row) (all_now l.others)
