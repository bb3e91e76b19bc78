use Rattle.std.proofs.Common.{subst, sym, arith}
use Rattle.std.proofs.Math.Logic.{∥∥₁_map}
use Rattle.rp_saved_file.specs.Crashes.{file_of, LeavesNoMore, LeavesOldOr}
use Rattle.rp_saved_file.proofs.Moments.{still_kept, still_or, kept_or, or_known}
use Rattle.rp_saved_file.proofs.replacing.Replacement.finish.Goals as goal

pub returns-in-Ok-clause-ever : goal.returns-in-Ok-clause-ever
returns-in-Ok-clause-ever g c =
    let part = c.args.self.part in
    ∥∥₁_map c.args.self.kept (kept_or g.P.Part.moment g.P.Part.left_since g.P.Part.may_leave (g.P.Part.could_leave (g.P.Part.path part)) part c.take_place.new.part (λ place. g.met.P.Part.counts_now part 0 place (omega arith)) (file_of (g.P.Part.contents part)) c.take_place.ensures.meanwhile)

pub returns-in-Some-clause-unwritten : goal.returns-in-Some-clause-unwritten
returns-in-Some-clause-unwritten g c = λ failed.
    let part = c.args.self.part in
    let could = g.P.Part.could_leave (g.P.Part.path part) in
    let kept = ∥∥₁_map c.args.self.kept (still_kept g.P.Part.moment g.P.Part.left_since g.P.Part.may_leave could part c.remove.new.self (λ place. g.met.P.Part.counts_now part 0 place (omega arith)) c.remove.ensures.time c.remove.ensures.crash) in
    subst (λ left. ∥ LeavesNoMore could (g.P.Part.left_since left 0) ∥₁) (sym c.new.ensures) kept

pub returns-in-Some-clause-given_up : goal.returns-in-Some-clause-given_up
returns-in-Some-clause-given_up g c =
    let part = c.args.self.part in
    let could = g.P.Part.could_leave (g.P.Part.path part) in
    let known = file_of (g.P.Part.contents part) in
    let kept = ∥∥₁_map c.args.self.kept (still_kept g.P.Part.moment g.P.Part.left_since g.P.Part.may_leave could part c.remove.new.self (λ place. g.met.P.Part.counts_now part 0 place (omega arith)) c.remove.ensures.time c.remove.ensures.crash) in
    subst (λ left. ∥ LeavesOldOr known could (g.P.Part.left_since left 0) ∥₁) (sym c.new.ensures) (∥∥₁_map kept (or_known known could (g.P.Part.left_since c.remove.new.self 0)))

pub returns-in-Err-clause-given_up : goal.returns-in-Err-clause-given_up
returns-in-Err-clause-given_up g c =
    let part = c.args.self.part in
    let taken = c.take_place.new.part in
    let removed = c.remove-in-Err.new.self in
    let could = g.P.Part.could_leave (g.P.Part.path part) in
    let known = file_of (g.P.Part.contents part) in
    let or_new = ∥∥₁_map c.args.self.kept (kept_or g.P.Part.moment g.P.Part.left_since g.P.Part.may_leave could part taken (λ place. g.met.P.Part.counts_now part 0 place (omega arith)) known c.take_place.ensures.meanwhile) in
    let still = ∥∥₁_map or_new (still_or g.P.Part.moment g.P.Part.left_since g.P.Part.may_leave could taken removed (λ place. g.met.P.Part.counts_now taken 0 place (omega arith)) known c.remove-in-Err.ensures.time c.remove-in-Err.ensures.crash) in
    subst (λ left. ∥ LeavesOldOr known could (g.P.Part.left_since left 0) ∥₁) (sym c.new-in-Err.ensures) still
