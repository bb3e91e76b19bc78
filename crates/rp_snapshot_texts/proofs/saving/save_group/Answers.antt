use Rattle.rp_sight.specs.Stored.{row_of}
use Rattle.rp_snapshot_rows.specs.Written.{group_data}
use Rattle.rp_snapshot_texts.specs.Pieces.{piece}
use Rattle.rp_snapshot_texts.proofs.SaveLemmas.{nothing_saved}
use Rattle.rp_snapshot_texts.proofs.saving.save_group.Goals as goal

pub returns-in-Ok : goal.returns-in-Ok
returns-in-Ok g c = rw (c.deref.ensures.value, c.in-Ok.ensures) at c.write.ensures

pub returns-in-Err : goal.returns-in-Err
returns-in-Err g c = nothing_saved (g.W.Sink.contents c.args.writer.now) (g.W.Sink.write_failures c.args.writer.now) (piece c.args.later (group_data (row_of c.args.row.now)))
