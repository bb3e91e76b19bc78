use Rattle.std.proofs.Common.{◌≡◌, ◌++◌, drop}
use Rattle.ex_subtypes.specs.Nodes as spec
use Rattle.ex_subtypes.proofs.constraints.all_constraints.Given as goal

abbrev pub invariant-loop-number : goal.invariant-loop-number
invariant-loop-number l = l.kept.items ++ spec.all_kept (drop l.number l.entities) ≡ spec.all_kept l.entities
