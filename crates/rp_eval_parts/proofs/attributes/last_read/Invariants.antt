use Rattle.std.proofs.Common.{◌≡◌, drop}
use Rattle.rp_eval_parts.specs.Counts as counts
use Rattle.rp_eval_parts.proofs.attributes.last_read.Given as goal

abbrev pub invariant-loop-read : goal.invariant-loop-read
invariant-loop-read l = counts.last_read l.found (drop l.read-index l.differing) l.place ≡ counts.last_read l.written l.differing l.place
