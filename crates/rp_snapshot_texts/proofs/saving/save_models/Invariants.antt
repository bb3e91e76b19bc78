use Rattle.std.proofs.Common.{map, drop}
use Rattle.rp_snapshot_texts.specs.Texts.{model_by}
use Rattle.rp_snapshot_texts.specs.Pieces.{pieces, model_pieces}
use Rattle.rp_snapshot_texts.proofs.SaveLemmas.{SoFar}
use Rattle.rp_snapshot_texts.proofs.saving.save_models.Given as goal

abbrev pub invariant-loop-place : goal.invariant-loop-place
invariant-loop-place g l =
    SoFar (g.W.Sink.contents l.initial.writer) (g.W.Sink.contents l.writer) (g.W.Sink.write_failures l.initial.writer) (g.W.Sink.write_failures l.writer)
    (pieces l.later (map (model_by (g.V.Version.writes l.version)) (drop l.place l.models.rows))) (model_pieces (g.V.Version.writes l.version) l.models.rows)
