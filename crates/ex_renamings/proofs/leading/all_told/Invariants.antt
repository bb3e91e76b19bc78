use Rattle.std.proofs.Common.{◌≡◌, map}
use Rattle.graphs.specs.Graphs as graphs
use Rattle.ex_renamings.specs.Leading as spec
use Rattle.ex_renamings.proofs.leading.all_told.Given as goal

abbrev pub invariant-loop-member : goal.invariant-loop-member
invariant-loop-member l = l.found.items ≡ map (spec.leads l.graph l.marks) (graphs.numbers_from 0 l.member)
