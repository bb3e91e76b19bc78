use Rattle.std.proofs.Common.{◌≡◌, ◌++◌, ℕ, List, map, drop}
use Rattle.rp_snapshot_rows.specs.Written.{group_data}
use Rattle.rp_snapshot_texts.specs.Pieces.{pieces, group_pieces}
use Rattle.rp_snapshot_texts.proofs.comparing.behind_groups.Given as goal

abbrev pub invariant-loop-place : goal.invariant-loop-place
invariant-loop-place l = (rest : List ℕ)
    → (l.bytes ≡ group_pieces l.groups.rows ++ rest → l.left ≡ pieces l.later (map group_data (drop l.place l.groups.rows)) ++ rest)
    × (l.left ≡ pieces l.later (map group_data (drop l.place l.groups.rows)) ++ rest → l.bytes ≡ group_pieces l.groups.rows ++ rest)
