use Rattle.std.proofs.Common.{◌<◌, ℕ, IsTrue}
use Rattle.graphs.specs.Traces as spec
use Rattle.graphs.proofs.rings.are_certain.Given as goal

abbrev pub invariant-loop-member : goal.invariant-loop-member
invariant-loop-member l = (m : ℕ) → m < l.member → IsTrue (spec.is_certain l.graph l.traces m)
