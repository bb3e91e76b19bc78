use Rattle.std.proofs.Common.{◌≡◌, ◌++◌, [], drop, length, map, append-nil, sym, ◌∙◌, ap, subst, arith}
use Rattle.std.proofs.lemmas.List.{drop_all}
use Rattle.std.specs.List.Sorted.{IsNonDecreasing}
use Rattle.ex_subtypes.specs.Nodes.{ends_from, placed}
use Rattle.ex_subtypes.proofs.Placed.{ends_rise, placed-Entity, placed-OneOf, placed-And, placed-AndOr}
use Rattle.ex_subtypes.proofs.nodes.+placing.Goals as goal

pub node_of-returns-in-Entity : goal.node_of-returns-in-Entity
node_of-returns-in-Entity t c =
    let is = placed-Entity c.args.expression.now c.in-Entity.entity c.in-Entity.field-1 c.in-Entity.is in
    record { named = rw is c.entity_node.ensures.named; node = rw is c.entity_node.ensures.node }

pub node_of-returns-in-OneOf : goal.node_of-returns-in-OneOf
node_of-returns-in-OneOf t c =
    let is = placed-OneOf c.args.expression.now c.in-OneOf.parts c.in-OneOf.is in
    record { named = rw (is, ← c.as_slice.ensures) c.joined_node.ensures.named; node = rw (is, ← c.as_slice.ensures) c.joined_node.ensures.node }

pub node_of-returns-in-And : goal.node_of-returns-in-And
node_of-returns-in-And t c =
    let is = placed-And c.args.expression.now c.in-And.parts c.in-And.is in
    record { named = rw (is, ← c.as_slice-in-And.ensures) c.joined_node-in-And.ensures.named; node = rw (is, ← c.as_slice-in-And.ensures) c.joined_node-in-And.ensures.node }

pub node_of-returns-in-AndOr : goal.node_of-returns-in-AndOr
node_of-returns-in-AndOr t c =
    let is = placed-AndOr c.args.expression.now c.in-AndOr.parts c.in-AndOr.is in
    record { named = rw (is, ← c.as_slice-in-AndOr.ensures) c.joined_node-in-AndOr.ensures.named; node = rw (is, ← c.as_slice-in-AndOr.ensures) c.joined_node-in-AndOr.ensures.node }

pub joined_node-from_vec-requires : goal.joined_node-from_vec-requires
joined_node-from_vec-requires t c =
    let start = length c.args.named.now.items in
    let found = c.loop-part.ends.items in
    let none : drop c.loop-part.part-index c.args.parts.now ≡ [] = drop_all c.loop-part.part-index c.args.parts.now (omega arith) in
    let is : found ≡ ends_from start (map placed c.args.parts.now) =
    sym (append-nil found) ∙ ap (λ ps. found ++ ends_from (length c.loop-part.named.items) (map placed ps)) (sym none) ∙ c.loop-part.invariant.ends in
    subst IsNonDecreasing (sym is) (ends_rise start (map placed c.args.parts.now))
