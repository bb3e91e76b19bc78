use Rattle.std.proofs.Common.{◌⊎◌, inl, inr, ⊎_elim, subst}
use Rattle.rp_saved_file.specs.Crashes.{Place, file_of, Is}
use Rattle.rp_saved_file.proofs.Moments.{started, goes_on}
use Rattle.rp_saved_file.proofs.replacing.take_place.Goals as goal

pub returns-clause-meanwhile : goal.returns-clause-meanwhile
returns-clause-meanwhile g c =
    let old = c.args.part.now in
    let known = file_of (g.P.Part.contents old) in
    let renamed : (place : Place) → g.P.Part.may_leave c.rename.new.self place → g.P.Part.may_leave old place ⊎ Is known place =
    λ place now. ⊎_elim (λ left. inl (c.sync.ensures.crash place left)) (λ is. inr (subst (λ bytes. Is (file_of bytes) place) c.sync.ensures.same is)) (c.rename.ensures.crash place now) in
    let at_start = started g.P.Part.moment g.P.Part.left_since g.P.Part.may_leave known old (g.met.P.Part.only_now old) in
    let behind_sync = goes_on g.P.Part.moment g.P.Part.left_since g.P.Part.may_leave known old old c.sync.new.self at_start c.sync.ensures.time (λ place now. inl (c.sync.ensures.crash place now)) in
    let behind_rename = goes_on g.P.Part.moment g.P.Part.left_since g.P.Part.may_leave known old c.sync.new.self c.rename.new.self behind_sync c.rename.ensures.time renamed in
    goes_on g.P.Part.moment g.P.Part.left_since g.P.Part.may_leave known old c.rename.new.self c.settle.new.self behind_rename c.settle.ensures.time (λ place now. renamed place (c.settle.ensures.crash place now))
