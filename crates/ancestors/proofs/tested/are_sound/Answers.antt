use Rattle.std.proofs.Common.{IsTrue, sym, ◌∙◌}
use borrow.Author.Count.{below_more}
use Rattle.ancestors.specs.Labels as spec
use Rattle.ancestors.proofs.tested.are_sound.Goals as goal

pub loop-root-preserved : goal.loop-root-preserved
loop-root-preserved c = below_more (λ k. IsTrue (spec.is_sound c.args.graph.now c.args.traces.now c.args.labels.now k)) c.loop-root.root c.loop-root.invariant (sym c.is_sound.ensures ∙ c.if-not-is_sound.false)
