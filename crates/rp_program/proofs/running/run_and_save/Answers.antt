use Rattle.std.proofs.Common.{◌≡◌, ◌∙◌, Some, Err, ap, subst}
use Rattle.std.specs.Prelude.{option_copied}
use Rattle.plain_data.specs.declared.failure.Failure.TheVariants.{NoMemory}
use Rattle.rp_saved_file.specs.Crashes.{LeavesNoMore}
use Rattle.rp_snapshots.specs.Snapshots.{snapshot_of}
use Rattle.rp_program.specs.declared.fault.Fault.TheVariants.{Unsaved}
use Rattle.rp_program.specs.Runs.{seen}
use Rattle.rp_program.specs.Saved.{part_view, seen_file, IsKept, IsUnsaved}
use Rattle.rp_program.proofs.RunLemmas.{failed, unsaved, batched_at}
use Rattle.rp_program.proofs.SaveLemmas.{ends_kept, ends_unsaved}
use Rattle.rp_program.proofs.running.run_and_save.Goals as goal

pub returns-in-Err-save_in : goal.returns-in-Err-save_in
returns-in-Err-save_in g c =
    let v = part_view g.F.Part.Part.path g.F.Part.Part.contents g.F.Part.Part.failures g.F.Part.Part.may_leave g.F.Part.Part.left_since g.F.Part.Part.could_leave in
    let asked = option_copied c.args.save in
    let is : asked ≡ Some c.in-Some.path.now = ap option_copied c.in-Some.is in
    let left = c.in-Err-save_in.field-0.left in
    let old = c.args.repository.now.content in
    let new = c.run-2.new.repository.content in
    let text = snapshot_of new in
    let why = c.in-Err-save_in.field-0.why in
    let it = seen g.R.Source.remaining g.R.Source.read_failures g.R.Source.reads_made g.W.Sink.contents g.W.Sink.write_failures c.args.reader.now c.run-2.new.reader c.args.writer.now c.run-2.new.writer in
    let begun = g.F.Places.begun c.args.files.now in
    let begun_new = g.F.Places.begun c.begin.new.files in
    let failures = g.F.Places.failures c.args.files.now in
    let failures_new = g.F.Places.failures c.begin.new.files in
    let file = seen_file v begun begun_new failures failures_new asked (Some left) in
    let not : IsUnsaved v c.in-Some.path.now text why left.part = subst (λ path. IsUnsaved v path text why left.part) c.in-Ok.ensures.path c.in-Err-save_in.ensures.unsaved in
    let result = c.with_file-in-Err-save_in in
    batched_at v begun begun_new failures failures_new asked (λ why. why ≡ NoMemory) old new it (Some left) result.result.left (Err (Unsaved why)) result.result.ended result.ensures.left result.ensures.ended
    (unsaved (λ why. why ≡ NoMemory) old new it file c.in-Ok-run.done why c.in-Ok-run.ensures (ends_unsaved v begun begun_new failures failures_new asked c.in-Some.path.now left is c.in-Ok.ensures.one text why not))

pub returns-in-Err-run : goal.returns-in-Err-run
returns-in-Err-run g c =
    let v = part_view g.F.Part.Part.path g.F.Part.Part.contents g.F.Part.Part.failures g.F.Part.Part.may_leave g.F.Part.Part.left_since g.F.Part.Part.could_leave in
    let asked = option_copied c.args.save in
    let is : asked ≡ Some c.in-Some.path.now = ap option_copied c.in-Some.is in
    let left = c.give_up.result in
    let old = c.args.repository.now.content in
    let new = c.run-2.new.repository.content in
    let it = seen g.R.Source.remaining g.R.Source.read_failures g.R.Source.reads_made g.W.Sink.contents g.W.Sink.write_failures c.args.reader.now c.run-2.new.reader c.args.writer.now c.run-2.new.writer in
    let begun = g.F.Places.begun c.args.files.now in
    let begun_new = g.F.Places.begun c.begin.new.files in
    let failures = g.F.Places.failures c.args.files.now in
    let failures_new = g.F.Places.failures c.begin.new.files in
    let file = seen_file v begun begun_new failures failures_new asked (Some left) in
    let kept : IsKept v c.in-Some.path.now left.part = record {
      of = c.give_up.ensures.path ∙ c.in-Ok.ensures.path;
      kept = subst (λ path. ∥ LeavesNoMore (g.F.Part.Part.could_leave path) (g.F.Part.Part.left_since left.part 0) ∥₁) c.in-Ok.ensures.path c.give_up.ensures.kept;
    } in
    let result = c.with_file-in-Err-run in
    batched_at v begun begun_new failures failures_new asked (λ why. why ≡ NoMemory) old new it (Some left) result.result.left (Err c.in-Err-run.fault) result.result.ended result.ensures.left result.ensures.ended
    (failed (λ why. why ≡ NoMemory) old new it file c.in-Err-run.fault c.in-Err-run.ensures (ends_kept v begun begun_new failures failures_new asked c.in-Some.path.now left is c.in-Ok.ensures.one kept))
