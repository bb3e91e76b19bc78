use Rattle.std.proofs.Common.{◌<◌, ◌∙◌, ap, arith, length, slice_index_or, false}
use Rattle.graphs.specs.Graphs.{is_ancestor}
use Rattle.ex_resolve.proofs.Numbers.{mark-at, length-numbers}
use Rattle.ex_resolve.proofs.parts.types.Goals as goal

pub bounds-cyclic-number : goal.bounds-cyclic-number
bounds-cyclic-number c = grind (arith, ap length c.as_slice-cyclic.ensures.value, ap length c.in_ok-cyclic.ensures, length-numbers (λ k. is_ancestor c.args.held.now k k) 0 (length c.args.held.now), c.requires, c.loop-tree.invariant.counted, ap length c.in-Some.ensures)

pub type_in-requires : goal.type_in-requires
type_in-requires c =
    let less : c.loop-tree.number < length c.args.held.now = grind (arith, c.requires, c.loop-tree.invariant.counted, ap length c.in-Some.ensures) in
    ap (λ marks. slice_index_or marks c.loop-tree.number false) (c.as_slice-cyclic.ensures.value ∙ c.in_ok-cyclic.ensures)
    ∙ mark-at (λ k. is_ancestor c.args.held.now k k) (length c.args.held.now) c.loop-tree.number false less
