use Rattle.std.proofs.Common.{◌<◌, ℕ, IsTrue}
use Rattle.ancestors.specs.Labels as spec
use Rattle.ancestors.proofs.tested.are_sound.Given as goal

abbrev pub invariant-loop-root : goal.invariant-loop-root
invariant-loop-root l = (k : ℕ) → k < l.root → IsTrue (spec.is_sound l.graph l.traces l.labels k)
