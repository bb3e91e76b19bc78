use Rattle.std.proofs.Common.{◌≡◌, map}
use Rattle.graphs.specs.Graphs as spec
use Rattle.graphs.proofs.cycles.cyclic_marks.Given as goal

abbrev pub invariant-loop-member : goal.invariant-loop-member
invariant-loop-member l = l.marks.items ≡ map (λ k. spec.is_ancestor l.graph k k) (spec.numbers_from 0 l.member)
