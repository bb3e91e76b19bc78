use Rattle.std.proofs.Common.{take, drop, ◌∙◌, ap}
use Rattle.sorted_rings.proofs.Parts.{in_two}
use Rattle.sorted_rings.proofs.part.Goals as goal

pub returns : goal.returns
returns g c =
    let front = c.as_slices.result.0.now in
    let back = c.as_slices.result.1.now in
    rw (c.min.ensures, c.min-2.ensures, c.saturating_sub.ensures, c.saturating_sub-2.ensures)
    (in_two front back c.args.first c.args.end c.requires.order ∙ ap (λ rows. drop c.args.first (take c.args.end rows)) c.as_slices.ensures.items)
