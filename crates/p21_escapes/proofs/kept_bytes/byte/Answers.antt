use Rattle.std.proofs.Common.{◌≡◌, slice_index, ℕ, List, [], ◌∷◌, ◌<◌, length, refl, ◌∙◌, arith}
use Rattle.p21_escapes.proofs.LineEnds.{byte_at}
use Rattle.p21_escapes.proofs.kept_bytes.byte.Goals as goal

none : (rest : List ℕ) → length rest < 1 → 0 ≡ slice_index rest 0
none [] few = refl
none (b ∷ rest) few = absurd (omega arith)

pub returns-in-empty : goal.returns-in-empty
returns-in-empty c = none c.after.result.now (omega arith) ∙ byte_at c.args.bytes.now c.after.result.now c.args.at c.after.ensures.value c.after.ensures.begins

pub returns-in-len1-up : goal.returns-in-len1-up
returns-in-len1-up c = byte_at c.args.bytes.now c.after.result.now c.args.at c.after.ensures.value c.after.ensures.begins
