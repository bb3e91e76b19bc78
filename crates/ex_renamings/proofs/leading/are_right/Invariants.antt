use Rattle.std.proofs.Common.{◌<◌, ℕ, IsTrue}
use Rattle.ex_renamings.specs.Leading as spec
use Rattle.ex_renamings.proofs.leading.are_right.Given as goal

abbrev pub invariant-loop-member : goal.invariant-loop-member
invariant-loop-member l = (m : ℕ) → m < l.member → IsTrue (spec.is_right l.graph l.marks l.steps m)
