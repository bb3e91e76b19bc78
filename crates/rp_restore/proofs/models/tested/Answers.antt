use Rattle.std.proofs.Common.{◌≡◌, None, sym, ap, ◌∙◌, subst}
use Rattle.rp_rows.specs.Listings.{max_models}
use Rattle.rp_rows.specs.Rows.{row_key}
use Rattle.rp_plain.specs.Valid.{IsValidModel}
use Rattle.rp_snapshots.specs.Snapshots.{first_version, file_in}
use Rattle.rp_restore.specs.Places.{no_place}
use Rattle.rp_restore.proofs.Room.{has_place}
use Rattle.rp_restore.proofs.models.tested.Goals as goal

pub returns-in-Some-clause-again : goal.returns-in-Some-clause-again
returns-in-Some-clause-again c m may same text =
    let rows = c.args.holdings.now.content.models in
    let r = c.args.holdings.now.content in
    let valid = subst (λ s. IsValidModel s c.partners.result.now m) (sym c.schemas.ensures) (subst (λ p. IsValidModel r.schemas p m) (sym c.partners.ensures) may.valid) in
    let taken = c.in-Ok.ensures.again m valid same (text ∙ ap (λ s. file_in first_version s m.holds) (sym c.schemas.ensures)) in
    let place : no_place max_models c.in-Ok.model.key rows ≡ None = subst (λ k. no_place max_models k rows ≡ None) (sym (ap row_key taken)) (has_place max_models (row_key m) rows may.new may.room) in
    let here = c.no_place.ensures in
    let some = c.in-Some.is in
    cc
