use Rattle.std.proofs.Common.{◌≡◌, drop}
use Rattle.rp_faults.specs.Declarations.{last_read}
use Rattle.rp_faults.proofs.declared.read_at.Given as goal

abbrev pub invariant-loop-read : goal.invariant-loop-read
invariant-loop-read l = last_read l.found (drop l.read-index l.differing) l.place ≡ last_read l.written l.differing l.place
