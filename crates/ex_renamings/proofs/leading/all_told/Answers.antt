use Rattle.std.proofs.Common.{◌∷◌, ◌++◌, [], map, sym, ◌∙◌, ap}
use Rattle.graphs.specs.Graphs as graphs
use Rattle.graphs.proofs.Numbers.{one_more}
use Rattle.ex_renamings.specs.Leading as spec
use Rattle.ex_renamings.proofs.leading.all_told.Goals as goal

pub loop-member-preserved : goal.loop-member-preserved
loop-member-preserved c =
    let graph = c.args.graph.now in
    let marks = c.args.marks.now in
    let n = c.loop-member.member in
    c.in_ok-push.ensures.items
    ∙ ap (λ l. l ++ c.in_ok-leads.leads ∷ []) c.loop-member.invariant
    ∙ ap (λ m. map (spec.leads graph marks) (graphs.numbers_from 0 n) ++ m ∷ []) c.in_ok-leads.ensures
    ∙ sym (one_more (spec.leads graph marks) n)
