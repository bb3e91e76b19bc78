use Rattle.std.proofs.Common.{◌≡◌, drop}
use Rattle.std.specs.List.{list_any}
use Rattle.rp_operations.specs.Operations.{is_same}
use Rattle.rp_faults.specs.Buckets.{all_now}
use Rattle.rp_faults.proofs.twice.is_sharing.Given as goal

abbrev pub invariant-loop-other : goal.invariant-loop-other
invariant-loop-other l = list_any (is_same l.item) (all_now (drop l.other-index l.others)) ≡ list_any (is_same l.item) (all_now l.others)
