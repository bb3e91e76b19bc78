use Rattle.std.proofs.Common.{◌<◌, ◌≤◌, ◌+◌, true, length, map, drop, arith}
use Rattle.std.proofs.lemmas.Result.{err_from_is_err_and}
use Rattle.rp_sight.specs.Stored.{row_of}
use Rattle.rp_snapshot_rows.specs.Written.{group_data}
use Rattle.rp_snapshot_texts.specs.Pieces.{piece, pieces, group_pieces}
use Rattle.rp_snapshot_texts.proofs.PieceLemmas.{at_row, at_end}
use Rattle.rp_snapshot_texts.proofs.SaveLemmas.{started, more, stopped, finished}
use Rattle.rp_snapshot_texts.proofs.saving.save_groups.Goals as goal

pub loop-place-init : goal.loop-place-init
loop-place-init g c = started (g.W.Sink.contents c.args.writer.now) (g.W.Sink.write_failures c.args.writer.now) (group_pieces c.args.groups.now.rows)

pub loop-place-preserved : goal.loop-place-preserved
loop-place-preserved g c =
    let rows = c.args.groups.now.rows in
    let x = row_of c.row.result in
    let within : c.loop-place.place < length rows = omega (arith, c.loop-place-test.true, c.len-place-end.ensures.len) in
    let s = rw (at_row group_data c.loop-place.later rows c.loop-place.place x within c.row.ensures) at c.loop-place.invariant in
    more (g.W.Sink.contents c.args.writer.now) (g.W.Sink.contents c.loop-place.writer) (g.W.Sink.contents c.save_group.new.writer) (g.W.Sink.write_failures c.args.writer.now) (g.W.Sink.write_failures c.loop-place.writer) (g.W.Sink.write_failures c.save_group.new.writer) (piece c.loop-place.later (group_data x))
    (pieces true (map group_data (drop (c.loop-place.place + 1) rows))) (group_pieces rows) s c.in_ok-save_group.ensures

pub returns-in_err-save_group : goal.returns-in_err-save_group
returns-in_err-save_group g c =
    let rows = c.args.groups.now.rows in
    let x = row_of c.row.result in
    let within : c.loop-place.place < length rows = omega (arith, c.loop-place-test.true, c.len-place-end.ensures.len) in
    let s = rw (at_row group_data c.loop-place.later rows c.loop-place.place x within c.row.ensures) at c.loop-place.invariant in
    let p = err_from_is_err_and c.from_residual.result c.from_residual.ensures.1 in
    rw (p.1, p.2)
    (stopped (g.W.Sink.contents c.args.writer.now) (g.W.Sink.contents c.loop-place.writer) (g.W.Sink.contents c.save_group.new.writer) (g.W.Sink.write_failures c.args.writer.now) (g.W.Sink.write_failures c.loop-place.writer) (g.W.Sink.write_failures c.save_group.new.writer) (piece c.loop-place.later (group_data x))
    (pieces true (map group_data (drop (c.loop-place.place + 1) rows))) (group_pieces rows) c.in_err-save_group.field-0.0 s c.in_err-save_group.ensures)

pub returns : goal.returns
returns g c =
    let rows = c.args.groups.now.rows in
    let all : length rows ≤ c.loop-place.place = omega (arith, c.loop-place-test.false, c.len-place-end.ensures.len) in
    let s = rw (at_end group_data c.loop-place.later rows c.loop-place.place all) at c.loop-place.invariant in
    finished (g.W.Sink.contents c.args.writer.now) (g.W.Sink.contents c.loop-place.writer) (g.W.Sink.write_failures c.args.writer.now) (g.W.Sink.write_failures c.loop-place.writer) (group_pieces rows) s
