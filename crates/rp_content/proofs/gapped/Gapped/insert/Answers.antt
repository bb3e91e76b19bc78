use Rattle.std.proofs.Common.{◌+◌, ◌≤◌, length, ◌∙◌, ap, arith}
use Rattle.std.specs.List.{insert}
use Rattle.std.proofs.lemmas.List.{length-drop}
use Rattle.rp_content.proofs.Gaps.{inserted}
use Rattle.rp_content.proofs.gapped.Gapped.insert.Goals as goal

pub returns : goal.returns
returns c =
    let g = c.self.inside in
    let within : g.gone + c.args.place ≤ length g.items.items = omega (arith, c.self.invariant, c.requires.within, ap (λ s. length s.0) c.self.view_is, length-drop g.gone g.items.items) in
    rw (c.insert.ensures.items, c.unwrap.ensures)
    (inserted g.gone c.args.place c.args.instance g.items.items within ∙ ap (λ s. insert s.0 c.args.place c.args.instance) c.self.view_is)
