use Rattle.std.proofs.Common.{List, length, ◌≡◌, ◌≤◌, ◌++◌}
use Rattle.std.specs.List.{AllByRecursion}
use Rattle.json.specs.Token.{Token}
use Rattle.rp_rows.specs.declared.rows.Grant.{Grant}
use Rattle.rp_snapshot_rows.specs.Again.{IsToRead}
use Rattle.rp_json.specs.Tokens.{listed}
use Rattle.rp_snapshot_rows.specs.Tokens.{reader_tokens}
use Rattle.rp_snapshot_rows.proofs.ListLemmas.{AreLeft}
use Rattle.rp_snapshot_rows.proofs.lists.group_grants.Given as goal

abbrev pub invariant-grants : goal.invariant-grants
invariant-grants l = ((all : List Grant) (rest : List Token) → AllByRecursion IsToRead all → l.initial.reader ≡ listed reader_tokens all ++ rest → AreLeft reader_tokens all l.grants l.reader rest) × (length l.reader ≤ length l.initial.reader)

abbrev pub decreases-grants : goal.decreases-grants
decreases-grants l = length l.reader
