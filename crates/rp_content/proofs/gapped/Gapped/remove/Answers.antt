use Rattle.std.proofs.Common.{◌+◌, ◌<◌, length, drop, ◌∙◌, ap, arith}
use Rattle.std.specs.List.{remove}
use Rattle.std.proofs.lemmas.List.{length-drop}
use Rattle.rp_content.proofs.Gaps.{removed}
use Rattle.rp_content.proofs.gapped.Gapped.remove.Goals as goal

pub returns-else-place-len : goal.returns-else-place-len
returns-else-place-len c =
    let g = c.self.inside in
    let within : g.gone + c.args.place < length g.items.items = omega (arith, c.self.invariant, c.requires, ap (λ s. length s.0) c.self.view_is, length-drop g.gone g.items.items) in
    ap (drop g.gone) c.remove.ensures.items ∙ removed g.gone c.args.place g.items.items within ∙ ap (λ s. remove s.0 c.args.place) c.self.view_is
