use Rattle.std.proofs.Common.{map, drop}
use Rattle.rp_snapshot_rows.specs.Written.{group_data}
use Rattle.rp_snapshot_texts.specs.Pieces.{pieces, group_pieces}
use Rattle.rp_snapshot_texts.proofs.SaveLemmas.{SoFar}
use Rattle.rp_snapshot_texts.proofs.saving.save_groups.Given as goal

abbrev pub invariant-loop-place : goal.invariant-loop-place
invariant-loop-place g l =
    SoFar (g.W.Sink.contents l.initial.writer) (g.W.Sink.contents l.writer) (g.W.Sink.write_failures l.initial.writer) (g.W.Sink.write_failures l.writer)
    (pieces l.later (map group_data (drop l.place l.groups.rows))) (group_pieces l.groups.rows)
