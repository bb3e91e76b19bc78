use Rattle.std.proofs.Common.{◌<◌, ◌∙◌, ap, arith, length, slice_index_or, false}
use Rattle.graphs.specs.Graphs.{is_ancestor}
use Rattle.ex_resolve.proofs.Numbers.{mark-at, length-numbers}
use Rattle.ex_resolve.proofs.parts.entities_over.Goals as goal

pub bounds-cyclic-number : goal.bounds-cyclic-number
bounds-cyclic-number c = grind (arith, ap length c.requires.cyclic, length-numbers (λ k. is_ancestor c.args.supertypes.now k k) 0 (length c.args.supertypes.now), c.requires.counted, c.loop-tree.invariant.counted, ap length c.in-Some.ensures)

pub named_entity-requires : goal.named_entity-requires
named_entity-requires c =
    let less : c.loop-tree.number < length c.args.supertypes.now = grind (arith, c.requires.counted, c.loop-tree.invariant.counted, ap length c.in-Some.ensures) in
    ap (λ marks. slice_index_or marks c.loop-tree.number false) c.requires.cyclic
    ∙ mark-at (λ k. is_ancestor c.args.supertypes.now k k) (length c.args.supertypes.now) c.loop-tree.number false less
