use Rattle.std.proofs.Common.{◌<◌, length, take}
use Rattle.rp_faults.specs.Buckets.{Holds}
use Rattle.rp_rules.specs.Buckets.{key_of_row}
use Rattle.rp_rules.proofs.buckets.in_buckets.Given as goal

abbrev pub invariant-loop-row : goal.invariant-loop-row
invariant-loop-row l = record {
  room : 0 < length l.made;
  held : Holds key_of_row l.made (take l.row-index l.rows);
}
