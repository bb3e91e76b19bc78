use Rattle.std.proofs.Common.{drop}
use Rattle.rp_sight.specs.Granted.{counts_under}
use Rattle.rp_sight.proofs.Marking.{IsMarking}
use Rattle.rp_sight.proofs.marks.mark_granted.Given as goal

abbrev pub invariant-loop-names : goal.invariant-loop-names
invariant-loop-names l = IsMarking (λ e m. counts_under l.caller l.groups.rows e m) l.models.rows l.fn.marks l.marks l.granted (drop l.names-index l.granted)
