use Rattle.std.proofs.Common.{sym, subst}
use Rattle.rp_core.specs.Held.{Kept, Fits, StepsFit}
use Rattle.rp_core.proofs.holdings.Holdings.commit.Goals as goal

pub make_steps-requires : goal.make_steps-requires
unfolding Fits
make_steps-requires c = subst (λ (k : Kept). StepsFit k.both c.args.pending.steps) (sym c.self.view_is) c.requires.0
