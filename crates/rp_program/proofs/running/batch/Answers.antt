use Rattle.std.specs.Prelude.{option_copied}
use Rattle.rp_program.specs.Runs.{seen}
use Rattle.rp_program.specs.Saved.{part_view, seen_file}
use Rattle.rp_program.proofs.RunLemmas.{batched_from}
use Rattle.rp_program.proofs.running.batch.Goals as goal

pub returns-in-Ok : goal.returns-in-Ok
returns-in-Ok g c =
    let v = part_view g.F.Part.Part.path g.F.Part.Part.contents g.F.Part.Part.failures g.F.Part.Part.may_leave g.F.Part.Part.left_since g.F.Part.Part.could_leave in
    let it = seen g.R.Source.remaining g.R.Source.read_failures g.R.Source.reads_made g.W.Sink.contents g.W.Sink.write_failures c.args.reader.now c.run_loaded.new.reader c.args.writer.now c.run_loaded.new.writer in
    let file = seen_file v (g.F.Places.begun c.args.files.now) (g.F.Places.begun c.run_loaded.new.files) (g.F.Places.failures c.args.files.now) (g.F.Places.failures c.run_loaded.new.files) (option_copied c.args.snapshots.save) c.run_loaded.result.left in
    batched_from (g.D.Folder.files c.args.folder.now) c.args.path.now (option_copied c.args.snapshots.load) c.in-Ok.loaded c.in-Ok.given c.in-Ok.ensures.begun it file c.run_loaded.result.ended c.run_loaded.ensures
