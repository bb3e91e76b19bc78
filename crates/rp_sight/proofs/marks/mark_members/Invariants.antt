use Rattle.std.proofs.Common.{drop}
use Rattle.rp_sight.specs.Listed.{fits}
use Rattle.rp_sight.specs.Stored.{row_of}
use Rattle.rp_sight.proofs.Marking.{IsMarking, at_key}
use Rattle.rp_sight.proofs.marks.mark_members.Given as goal

abbrev pub invariant-loop-key : goal.invariant-loop-key
invariant-loop-key l = IsMarking (λ k. at_key k (fits (row_of l.group))) l.models.rows l.fn.marks l.marks l.key-items (drop l.key-index l.key-items)
