use Rattle.std.proofs.Common.{◌≡◌, drop}
use Rattle.std.specs.List.{list_all}
use Rattle.plain_data.specs.Numbers.{is_among}
use Rattle.graphs.specs.Graphs.{supertypes}
use Rattle.ex_subtypes.specs.Legal as spec
use Rattle.ex_subtypes.proofs.graph.is_closed.Given as goal

abbrev pub invariant-loop-member : goal.invariant-loop-member
invariant-loop-member l = list_all (λ e. list_all (is_among l.set) (supertypes (spec.graph l.entities) e)) (drop l.member-index l.member-items) ≡ spec.is_closed (spec.graph l.entities) l.set
