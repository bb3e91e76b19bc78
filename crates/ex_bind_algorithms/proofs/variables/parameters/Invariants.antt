use Rattle.std.proofs.Common.{◌≡◌, drop}
use Rattle.ex_named.specs.Outcomes.{each, each_after}
use Rattle.ex_bind_algorithms.specs.Algorithms.{parameter}
use Rattle.ex_bind_algorithms.proofs.variables.parameters.Given as goal

abbrev pub invariant-loop-item : goal.invariant-loop-item
invariant-loop-item l = each_after (parameter l.declarations) l.found (drop l.item-index l.parameters) ≡ each (parameter l.declarations) l.parameters
