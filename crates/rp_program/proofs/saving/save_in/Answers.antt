use Rattle.std.proofs.Common.{◌∙◌, rules, sym}
use Rattle.rp_snapshots.specs.Snapshots.{snapshot_of}
use Rattle.rp_program.specs.Saved.{part_view}
use Rattle.rp_program.proofs.SaveLemmas.{saved_all, unsaved_all, unwritten, kept}
use Rattle.rp_program.proofs.saving.save_in.Goals as goal

pub returns-in-Ok-clause-saved : goal.returns-in-Ok-clause-saved
returns-in-Ok-clause-saved g c =
    let v = part_view g.P.Part.path g.P.Part.contents g.P.Part.failures g.P.Part.may_leave g.P.Part.left_since g.P.Part.could_leave in
    saved_all v c.args.replacement.part c.written-ended.result.1.part (snapshot_of c.args.repository.now.content) c.requires.0 c.written-ended.ensures.path
    c.finished.result (rw c.in-Ok.is at c.written-ended.ensures.whole) c.finished.ensures.path c.finished.ensures.whole c.finished.ensures.ever

pub returns-in-Ok-clause-unsaved : goal.returns-in-Ok-clause-unsaved
returns-in-Ok-clause-unsaved g c =
    let v = part_view g.P.Part.path g.P.Part.contents g.P.Part.failures g.P.Part.may_leave g.P.Part.left_since g.P.Part.could_leave in
    unsaved_all v c.args.replacement.part c.written-ended.result.1.part (snapshot_of c.args.repository.now.content) c.requires.0 c.written-ended.ensures.path
    c.finished.result (rw c.in-Ok.is at c.written-ended.ensures.whole) c.finished.ensures.path c.finished.ensures.failed c.finished.ensures.given_up

pub returns-in-Err-NoMemory-clause-unsaved : goal.returns-in-Err-NoMemory-clause-unsaved
returns-in-Err-NoMemory-clause-unsaved g c =
    let v = part_view g.P.Part.path g.P.Part.contents g.P.Part.failures g.P.Part.may_leave g.P.Part.left_since g.P.Part.could_leave in
    kept v c.args.replacement.part c.written-ended.result.1.part (snapshot_of c.args.repository.now.content) c.requires.0 c.written-ended.ensures.path
    c.give_up.result.part c.give_up.ensures.path c.give_up.ensures.kept

pub returns-in-Err-WriteFault-clause-unsaved : goal.returns-in-Err-WriteFault-clause-unsaved
returns-in-Err-WriteFault-clause-unsaved g c =
    let v = part_view g.P.Part.path g.P.Part.contents g.P.Part.failures g.P.Part.may_leave g.P.Part.left_since g.P.Part.could_leave in
    let ended = c.finished-in-Err-WriteFault in
    let failed = c.written-ended.ensures.failed (search rules) in
    unwritten v c.args.replacement.part c.written-ended.result.1.part (snapshot_of c.args.repository.now.content) c.requires.0 c.written-ended.ensures.path
    ended.result ended.ensures.path ended.ensures.failed (ended.ensures.unwritten (λ none. failed (none ∙ sym c.requires.1)))
