use Rattle.std.proofs.Common.{set, ◌∙◌, ap}
use Rattle.std.proofs.lemmas.List.{drop-set-add}
use Rattle.rp_content.proofs.gapped.Gapped.set.Goals as goal

pub returns : goal.returns
returns c =
    let g = c.self.inside in
    drop-set-add g.gone g.items.items c.args.place c.args.instance ∙ ap (λ s. set s.0 c.args.place c.args.instance) c.self.view_is
