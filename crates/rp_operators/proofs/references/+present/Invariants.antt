use Rattle.std.proofs.Common.{◌≡◌, ◌++◌, map, drop}
use Rattle.rp_meaning.specs.Reading.{present}
use Rattle.rp_operators.proofs.references.+present.Given as goal

abbrev pub invariant-all_present-loop-value : goal.invariant-all_present-loop-value
invariant-all_present-loop-value l = l.found ++ map (present l.count) (drop l.value-index l.values) ≡ map (present l.count) l.values
