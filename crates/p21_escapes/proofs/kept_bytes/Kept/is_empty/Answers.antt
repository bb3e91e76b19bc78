use Rattle.std.proofs.Common.{◌==◌, List, ℕ, length, ap, ◌∙◌}
use Rattle.p21_escapes.proofs.LineEnds.{any_kept}
use Rattle.p21_escapes.proofs.kept_bytes.Kept.is_empty.Goals as goal

pub returns : goal.returns
returns c =
    c.is_empty.ensures ∙ any_kept c.self.inside.bytes.now c.after.result.now c.after.ensures.value c.after.ensures.begins ∙ ap (λ (l : List ℕ). length l == 0) c.self.view_is
