use Rattle.std.proofs.Common.{subst, sym, arith}
use Rattle.std.proofs.Math.Logic.{∥∥₁_map}
use Rattle.rp_saved_file.specs.Crashes.{LeavesNoMore}
use Rattle.rp_saved_file.proofs.Moments.{still_kept}
use Rattle.rp_saved_file.proofs.replacing.ReplacementSink.write.Goals as goal

pub invariant_of-self : goal.invariant_of-self
invariant_of-self g c =
    let old = c.args.self.now.part in
    let new = c.write.new.self in
    let could = g.P.Part.could_leave (g.P.Part.path old) in
    let kept = ∥∥₁_map c.args.self.now.kept (still_kept g.P.Part.moment g.P.Part.left_since g.P.Part.may_leave could old new (λ place. g.met.P.Part.counts_now old 0 place (omega arith)) c.write.ensures.time c.write.ensures.crash) in
    record {
      told = rw c.in-Ok.ensures.ok c.args.self.now.told;
      kept = subst (λ path. ∥ LeavesNoMore (g.P.Part.could_leave path) (g.P.Part.left_since new 0) ∥₁) (sym c.write.ensures.path) kept;
    }

pub invariant_of-self-in-Err : goal.invariant_of-self-in-Err
invariant_of-self-in-Err g c =
    let old = c.args.self.now.part in
    let new = c.write.new.self in
    let could = g.P.Part.could_leave (g.P.Part.path old) in
    let kept = ∥∥₁_map c.args.self.now.kept (still_kept g.P.Part.moment g.P.Part.left_since g.P.Part.may_leave could old new (λ place. g.met.P.Part.counts_now old 0 place (omega arith)) c.write.ensures.time c.write.ensures.crash) in
    record {
      told = λ failed is. c.in-Err.ensures.err.1;
      kept = subst (λ path. ∥ LeavesNoMore (g.P.Part.could_leave path) (g.P.Part.left_since new 0) ∥₁) (sym c.write.ensures.path) kept;
    }
