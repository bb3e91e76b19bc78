use Rattle.std.proofs.Common.{◌≤◌, length}
use Rattle.rp_snapshot_rows.specs.Tokens.{grant_tokens}
use Rattle.rp_snapshot_rows.proofs.ListLemmas.{ReadsOn}
use Rattle.rp_snapshot_rows.proofs.lists.grants.Given as goal

abbrev pub invariant-grants : goal.invariant-grants
invariant-grants l = ReadsOn grant_tokens l.initial.reader l.grants l.reader × (length l.reader ≤ length l.initial.reader)

abbrev pub decreases-grants : goal.decreases-grants
decreases-grants l = length l.reader
