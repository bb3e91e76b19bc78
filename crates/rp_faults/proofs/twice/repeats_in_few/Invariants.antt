use Rattle.std.proofs.Common.{◌≡◌, [], take, drop}
use Rattle.rp_faults.specs.Twice.{repeats}
use Rattle.rp_faults.proofs.twice.repeats_in_few.Given as goal

abbrev pub invariant-loop-at : goal.invariant-loop-at
invariant-loop-at l = repeats (take l.at l.places) (drop l.at l.places) ≡ repeats [] l.places
