use Rattle.std.proofs.Common.{◌∷◌, ◌++◌, [], map, sym, ◌∙◌, ap}
use Rattle.graphs.specs.Graphs as spec
use Rattle.graphs.proofs.Numbers.{one_more}
use Rattle.graphs.proofs.cycles.cyclic_marks.Goals as goal

pub loop-member-preserved : goal.loop-member-preserved
loop-member-preserved c =
    let graph = c.args.graph.now in
    let n = c.loop-member.member in
    c.in_ok-push.ensures.items
    ∙ ap (λ l. l ++ c.in_ok-marked.marked ∷ []) c.loop-member.invariant
    ∙ ap (λ m. map (λ k. spec.is_ancestor graph k k) (spec.numbers_from 0 n) ++ m ∷ []) c.in_ok-marked.ensures
    ∙ sym (one_more (λ k. spec.is_ancestor graph k k) n)
