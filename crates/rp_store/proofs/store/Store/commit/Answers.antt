use Rattle.std.proofs.Common.{sym, ◌∙◌, ap}
use Rattle.rp_store.specs.Contents.{edited_by}
use Rattle.rp_store.specs.Models.{edited}
use Rattle.rp_store.specs.Kept.{made}
use Rattle.rp_store.proofs.Finding.{edited_rows}
use Rattle.rp_store.proofs.store.Store.commit.Goals as goal

pub returns-in-Alter : goal.returns-in-Alter
returns-in-Alter c =
    let k = c.in-Alter.key in
    let f = edited_by c.in-Alter.change in
    c.alter.ensures
    ∙ edited_rows k f c.self.inside.models.entries
    ∙ ap (λ s. edited k f s.entries) c.self.view_is
    ∙ ap (λ p. made p c.args.self.now.entries) (sym c.in-Alter.is)
