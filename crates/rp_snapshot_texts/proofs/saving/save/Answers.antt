use Rattle.std.proofs.Common.{◌++◌, Err}
use Rattle.std.proofs.lemmas.Result.{err_from_is_err_and}
use Rattle.rp_snapshot_texts.specs.Texts.{first_line}
use Rattle.rp_snapshot_texts.specs.Pieces.{before_groups, between, foot, group_pieces, model_pieces}
use Rattle.rp_snapshot_texts.proofs.PieceLemmas.{in_parts}
use Rattle.rp_snapshot_texts.proofs.SaveLemmas.{behind, cut_off}
use Rattle.rp_snapshot_texts.proofs.saving.save.Goals as goal

pub returns-in_err-write : goal.returns-in_err-write
returns-in_err-write g c =
    let file = g.V.Version.writes c.args.version.now in
    let line = first_line (g.V.Version.number c.args.version.now) in
    let groups = before_groups ++ group_pieces c.args.groups.now.rows in
    let models = between ++ (model_pieces file c.args.models.now.rows ++ foot) in
    let cut = in_parts (g.V.Version.number c.args.version.now) file c.args.groups.now.rows c.args.models.now.rows in
    let p = err_from_is_err_and c.from_residual.result c.from_residual.ensures.1 in
    let first = rw c.first_line.ensures at c.in_err-write.ensures in
    rw (p.1, p.2, cut)
    (cut_off (g.W.Sink.contents c.args.writer.now) (g.W.Sink.contents c.write.new.writer) (g.W.Sink.write_failures c.args.writer.now) (g.W.Sink.write_failures c.write.new.writer) line (groups ++ models) c.in_err-write.field-0.0 first)

pub returns-in_err-save_group_list : goal.returns-in_err-save_group_list
returns-in_err-save_group_list g c =
    let file = g.V.Version.writes c.args.version.now in
    let line = first_line (g.V.Version.number c.args.version.now) in
    let groups = before_groups ++ group_pieces c.args.groups.now.rows in
    let models = between ++ (model_pieces file c.args.models.now.rows ++ foot) in
    let cut = in_parts (g.V.Version.number c.args.version.now) file c.args.groups.now.rows c.args.models.now.rows in
    let e = c.in_err-save_group_list.field-0.0 in
    let p = err_from_is_err_and c.from_residual-in_err-save_group_list.result c.from_residual-in_err-save_group_list.ensures.1 in
    let first = rw c.first_line.ensures at c.in_ok-write.ensures in
    let rest = cut_off (g.W.Sink.contents c.write.new.writer) (g.W.Sink.contents c.save_group_list.new.writer) (g.W.Sink.write_failures c.write.new.writer) (g.W.Sink.write_failures c.save_group_list.new.writer) groups models e c.in_err-save_group_list.ensures in
    rw (p.1, p.2, cut)
    (behind (g.W.Sink.contents c.args.writer.now) (g.W.Sink.contents c.write.new.writer) (g.W.Sink.contents c.save_group_list.new.writer) (g.W.Sink.write_failures c.args.writer.now) (g.W.Sink.write_failures c.write.new.writer) (g.W.Sink.write_failures c.save_group_list.new.writer) line (groups ++ models) (Err e) first rest)

pub returns : goal.returns
returns g c =
    let file = g.V.Version.writes c.args.version.now in
    let line = first_line (g.V.Version.number c.args.version.now) in
    let groups = before_groups ++ group_pieces c.args.groups.now.rows in
    let models = between ++ (model_pieces file c.args.models.now.rows ++ foot) in
    let cut = in_parts (g.V.Version.number c.args.version.now) file c.args.groups.now.rows c.args.models.now.rows in
    let first = rw c.first_line.ensures at c.in_ok-write.ensures in
    let rest = behind (g.W.Sink.contents c.write.new.writer) (g.W.Sink.contents c.save_group_list.new.writer) (g.W.Sink.contents c.save_model_list.new.writer) (g.W.Sink.write_failures c.write.new.writer) (g.W.Sink.write_failures c.save_group_list.new.writer) (g.W.Sink.write_failures c.save_model_list.new.writer) groups models c.save_model_list.result c.in_ok-save_group_list.ensures c.save_model_list.ensures in
    rw cut
    (behind (g.W.Sink.contents c.args.writer.now) (g.W.Sink.contents c.write.new.writer) (g.W.Sink.contents c.save_model_list.new.writer) (g.W.Sink.write_failures c.args.writer.now) (g.W.Sink.write_failures c.write.new.writer) (g.W.Sink.write_failures c.save_model_list.new.writer) line (groups ++ models) c.save_model_list.result first rest)
