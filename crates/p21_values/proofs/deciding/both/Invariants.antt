use Rattle.std.proofs.Common.{◌≡◌, ◌++◌, drop}
use Rattle.p21_values.specs.Deciding.{both}
use Rattle.p21_values.proofs.deciding.both.Given as goal

abbrev pub invariant-loop-place : goal.invariant-loop-place
invariant-loop-place l = l.found.items ++ both (drop l.place l.first) (drop l.place l.second) ≡ both l.first l.second
