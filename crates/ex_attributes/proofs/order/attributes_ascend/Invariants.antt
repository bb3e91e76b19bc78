use Rattle.std.proofs.Common.{◌≤◌}
use Rattle.std.specs.List.{AllAdjacentBelow}
use Rattle.ex_attributes.proofs.order.attributes_ascend.Given as goal

abbrev pub invariant-loop-next : goal.invariant-loop-next
invariant-loop-next l = AllAdjacentBelow (λ x y. x.place.entity ≤ y.place.entity) l.rows l.next
