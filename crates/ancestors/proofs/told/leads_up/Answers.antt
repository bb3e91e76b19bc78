use Rattle.std.proofs.Common.{◌∙◌, ap}
use Rattle.ancestors.specs.Labels as spec
use Rattle.ancestors.proofs.Ranges.{up_on, jump_on}
use Rattle.ancestors.proofs.told.leads_up.Goals.{then-label_of-depth, else-label_of-depth}
use Rattle.ancestors.proofs.told.leads_up.Goals as goal

pub loop-preserved : goal.loop-preserved
loop-preserved c =
    let graph = c.args._graph.now in
    let from = c.args.from in
    elim c.if-label_of-depth.branch [
      | then-label_of-depth w ↦ ap (spec.is_up graph from) (w.at-is ∙ ap (λ l. l.up) c.label_of-label.ensures) ∙ up_on graph c.args._traces.now c.args.labels.now c.requires from c.loop.at c.loop.invariant
      | else-label_of-depth w ↦ ap (spec.is_up graph from) (w.at-is ∙ ap (λ l. l.jump) c.label_of-label.ensures) ∙ jump_on graph c.args._traces.now c.args.labels.now c.requires from c.loop.at c.loop.invariant
    ]
