use Rattle.std.proofs.Common.{List, length, ◌≡◌, ◌≤◌, ◌++◌}
use Rattle.std.specs.List.{AllByRecursion}
use Rattle.json.specs.Token.{Token}
use Rattle.rp_content.specs.declared.link.Link.{Link}
use Rattle.rp_snapshot_rows.specs.Again.{HasNumbers}
use Rattle.rp_json.specs.Tokens.{listed}
use Rattle.rp_snapshot_rows.specs.Tokens.{link_tokens}
use Rattle.rp_snapshot_rows.proofs.ListLemmas.{AreLeft}
use Rattle.rp_snapshot_rows.proofs.lists.links.Given as goal

abbrev pub invariant-links : goal.invariant-links
invariant-links l = ((all : List Link) (rest : List Token) → AllByRecursion HasNumbers all → l.initial.reader ≡ listed link_tokens all ++ rest → AreLeft link_tokens all l.links l.reader rest) × (length l.reader ≤ length l.initial.reader)

abbrev pub decreases-links : goal.decreases-links
decreases-links l = length l.reader
