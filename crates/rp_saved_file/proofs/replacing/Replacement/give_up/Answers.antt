use Rattle.std.proofs.Common.{arith}
use Rattle.std.proofs.Math.Logic.{∥∥₁_map}
use Rattle.rp_saved_file.proofs.Moments.{still_kept}
use Rattle.rp_saved_file.proofs.replacing.Replacement.give_up.Goals as goal

pub returns-clause-kept : goal.returns-clause-kept
returns-clause-kept g c =
    let part = c.args.self.part in
    ∥∥₁_map c.args.self.kept (still_kept g.P.Part.moment g.P.Part.left_since g.P.Part.may_leave (g.P.Part.could_leave (g.P.Part.path part)) part c.remove.new.self (λ place. g.met.P.Part.counts_now part 0 place (omega arith)) c.remove.ensures.time c.remove.ensures.crash)
