use Rattle.std.proofs.lemmas.Result.{err_from_is_err_and}
use Rattle.rp_snapshot_texts.specs.Pieces.{before_groups, group_pieces}
use Rattle.rp_snapshot_texts.proofs.SaveLemmas.{behind, cut_off}
use Rattle.rp_snapshot_texts.proofs.saving.save_group_list.Goals as goal

pub returns-in_err-write : goal.returns-in_err-write
returns-in_err-write g c =
    let p = err_from_is_err_and c.from_residual.result c.from_residual.ensures.1 in
    rw (p.1, p.2)
    (cut_off (g.W.Sink.contents c.args.writer.now) (g.W.Sink.contents c.write.new.writer) (g.W.Sink.write_failures c.args.writer.now) (g.W.Sink.write_failures c.write.new.writer) before_groups (group_pieces c.args.groups.now.rows)
    c.in_err-write.field-0.0 c.in_err-write.ensures)

pub returns : goal.returns
returns g c =
    behind (g.W.Sink.contents c.args.writer.now) (g.W.Sink.contents c.write.new.writer) (g.W.Sink.contents c.save_groups.new.writer) (g.W.Sink.write_failures c.args.writer.now) (g.W.Sink.write_failures c.write.new.writer) (g.W.Sink.write_failures c.save_groups.new.writer)
    before_groups (group_pieces c.args.groups.now.rows) c.save_groups.result c.in_ok-write.ensures c.save_groups.ensures
