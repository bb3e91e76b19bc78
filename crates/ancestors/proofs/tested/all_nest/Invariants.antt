use Rattle.std.proofs.Common.{◌<◌, ℕ, IsTrue}
use Rattle.ancestors.specs.Labels as spec
use Rattle.ancestors.proofs.tested.all_nest.Given as goal

abbrev pub invariant-loop-member : goal.invariant-loop-member
invariant-loop-member l = (m : ℕ) → m < l.member → IsTrue (spec.nests l.graph l.traces l.labels m)
