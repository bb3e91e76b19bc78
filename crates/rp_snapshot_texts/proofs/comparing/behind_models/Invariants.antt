use Rattle.std.proofs.Common.{◌≡◌, ◌++◌, ℕ, List, map, drop}
use Rattle.rp_snapshot_texts.specs.Texts.{model_by}
use Rattle.rp_snapshot_texts.specs.Pieces.{pieces, model_pieces}
use Rattle.rp_snapshot_texts.proofs.comparing.behind_models.Given as goal

abbrev pub invariant-loop-place : goal.invariant-loop-place
invariant-loop-place g l = (rest : List ℕ)
    → (l.bytes ≡ model_pieces (g.V.Version.writes l.version) l.models.rows ++ rest → l.left ≡ pieces l.later (map (model_by (g.V.Version.writes l.version)) (drop l.place l.models.rows)) ++ rest)
    × (l.left ≡ pieces l.later (map (model_by (g.V.Version.writes l.version)) (drop l.place l.models.rows)) ++ rest → l.bytes ≡ model_pieces (g.V.Version.writes l.version) l.models.rows ++ rest)
