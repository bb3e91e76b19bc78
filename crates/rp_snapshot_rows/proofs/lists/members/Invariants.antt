use Rattle.std.proofs.Common.{◌≤◌, length}
use Rattle.rp_snapshot_rows.specs.Tokens.{member_tokens}
use Rattle.rp_snapshot_rows.proofs.ListLemmas.{ReadsOn}
use Rattle.rp_snapshot_rows.proofs.lists.members.Given as goal

abbrev pub invariant-members : goal.invariant-members
invariant-members l = ReadsOn member_tokens l.initial.reader l.members l.reader × (length l.reader ≤ length l.initial.reader)

abbrev pub decreases-members : goal.decreases-members
decreases-members l = length l.reader
