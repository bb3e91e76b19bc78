use Rattle.std.proofs.Common.{◌≡◌, Bor, Option, Some, None, is_some, refl, sym, ◌∙◌, ap}
use Rattle.std.specs.Prelude.{option_copied}
use Rattle.rp_rows.specs.Listings.{max_models}
use Rattle.rp_access.specs.Changes.{fault, is_new, has_rights}
use Rattle.rp_access.specs.Kept.{KeptAccess}
use Rattle.rp_access.specs.declared.changes.Change.TheVariants.{CreateModel}
use Rattle.rp_access.proofs.access.Access.fault_of.Goals as goal

some_copied : {X : Type 0} (o : Option (Bor X)) → is_some o ≡ is_some (option_copied o)
some_copied None = refl
some_copied (Some x) = refl

pub returns-in-CreateModel : goal.returns-in-CreateModel
returns-in-CreateModel c =
    let k = c.in-CreateModel.key in
    let gs = c.args.self.now.groups.rows in
    let there : c.is_some.result ≡ has_rights k c.self.inside.models.entries = c.is_some.ensures ∙ some_copied c.find.result ∙ ap is_some c.find.ensures in
    c.is_new.ensures
    ∙ (λ i. is_new (there i) (c.count_of.ensures i) max_models)
    ∙ ap (λ (a : KeptAccess). fault a.models.entries gs (CreateModel k)) c.self.view_is
    ∙ ap (fault c.args.self.now.models.entries gs) (sym c.in-CreateModel.is)
