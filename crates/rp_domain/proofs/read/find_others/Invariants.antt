use Rattle.std.proofs.Common.{◌≡◌, ◌++◌, take, drop}
use Rattle.std.specs.List.{zip}
use Rattle.rp_meaning.specs.Populations.{as_read}
use Rattle.rp_domain.specs.Rows.{read_all}
use Rattle.rp_domain.proofs.read.find_others.Given as goal

abbrev pub invariant-loop-at : goal.invariant-loop-at
invariant-loop-at l = record {
  readings : l.readings ≡ l.initial.readings;
  found : as_read l.found.items l.written ≡ take l.at (read_all l.initial.readings.0 l.initial.readings.1 (zip l.attributes l.written)) ++ drop l.at l.written;
}
