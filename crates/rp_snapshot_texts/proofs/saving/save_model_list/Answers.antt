use Rattle.std.proofs.Common.{◌++◌, Err}
use Rattle.std.proofs.lemmas.Result.{err_from_is_err_and}
use Rattle.rp_snapshot_texts.specs.Pieces.{between, foot, model_pieces}
use Rattle.rp_snapshot_texts.proofs.SaveLemmas.{behind, cut_off}
use Rattle.rp_snapshot_texts.proofs.saving.save_model_list.Goals as goal

pub returns-in_err-write : goal.returns-in_err-write
returns-in_err-write g c =
    let models = model_pieces (g.V.Version.writes c.args.version.now) c.args.models.now.rows in
    let p = err_from_is_err_and c.from_residual.result c.from_residual.ensures.1 in
    rw (p.1, p.2)
    (cut_off (g.W.Sink.contents c.args.writer.now) (g.W.Sink.contents c.write.new.writer) (g.W.Sink.write_failures c.args.writer.now) (g.W.Sink.write_failures c.write.new.writer) between (models ++ foot)
    c.in_err-write.field-0.0 c.in_err-write.ensures)

pub returns-in_err-save_models : goal.returns-in_err-save_models
returns-in_err-save_models g c =
    let models = model_pieces (g.V.Version.writes c.args.version.now) c.args.models.now.rows in
    let e = c.in_err-save_models.field-0.0 in
    let p = err_from_is_err_and c.from_residual-in_err-save_models.result c.from_residual-in_err-save_models.ensures.1 in
    let cut = cut_off (g.W.Sink.contents c.write.new.writer) (g.W.Sink.contents c.save_models.new.writer) (g.W.Sink.write_failures c.write.new.writer) (g.W.Sink.write_failures c.save_models.new.writer) models foot e c.in_err-save_models.ensures in
    rw (p.1, p.2)
    (behind (g.W.Sink.contents c.args.writer.now) (g.W.Sink.contents c.write.new.writer) (g.W.Sink.contents c.save_models.new.writer) (g.W.Sink.write_failures c.args.writer.now) (g.W.Sink.write_failures c.write.new.writer) (g.W.Sink.write_failures c.save_models.new.writer)
    between (models ++ foot) (Err e) c.in_ok-write.ensures cut)

pub returns : goal.returns
returns g c =
    let models = model_pieces (g.V.Version.writes c.args.version.now) c.args.models.now.rows in
    let rest = behind (g.W.Sink.contents c.write.new.writer) (g.W.Sink.contents c.save_models.new.writer) (g.W.Sink.contents c.write-2.new.writer) (g.W.Sink.write_failures c.write.new.writer) (g.W.Sink.write_failures c.save_models.new.writer) (g.W.Sink.write_failures c.write-2.new.writer) models foot c.write-2.result c.in_ok-save_models.ensures c.write-2.ensures in
    behind (g.W.Sink.contents c.args.writer.now) (g.W.Sink.contents c.write.new.writer) (g.W.Sink.contents c.write-2.new.writer) (g.W.Sink.write_failures c.args.writer.now) (g.W.Sink.write_failures c.write.new.writer) (g.W.Sink.write_failures c.write-2.new.writer)
    between (models ++ foot) c.write-2.result c.in_ok-write.ensures rest
