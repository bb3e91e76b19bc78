use Rattle.std.proofs.Common.{arith}
use Rattle.std.proofs.lemmas.List.Sorted.{IsNonDecreasingBy-from_all_adjacent}
use Rattle.ex_attributes.specs.declared.attribute.Attribute.{Attribute}
use Rattle.ex_attributes.proofs.order.attributes_ascend.Goals as goal

pub returns : goal.returns
returns c = λ _. IsNonDecreasingBy-from_all_adjacent (λ (a : Attribute). a.place.entity) c.args.rows.now (λ k d h. c.loop-next.invariant k d (omega (arith, h, c.loop-next-test.false)))
