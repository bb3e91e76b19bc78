use Rattle.std.proofs.Common.{◌≡◌, false}
use Rattle.std.specs.List.{AllAdjacentBelow}
use Rattle.ex_attributes.specs.Tables.{is_before}
use Rattle.ex_attributes.proofs.order.attributes_in_order.Given as goal

abbrev pub invariant-loop-next : goal.invariant-loop-next
invariant-loop-next l = AllAdjacentBelow (λ x y. is_before x.place y ≡ false) l.rows l.next
