-- Values that are kept.
use Rattle.std.specs.Prelude.{◌≡◌, ℕ, List, Some, slice_get}
use Rattle.rp_eval_parts.specs.declared.kept.Kept.{Kept}
use Rattle.rp_eval_parts.specs.Serving.{Serves}
use Rattle.rp_meaning.specs.declared.body.Body.TheVariants as b
use Rattle.rp_meaning.specs.Expressions.{World}

-- of the first constants, by their numbers
abbrev pub AllServe : World → List Kept → Type 0
AllServe w found = (number : ℕ) (k : Kept) → slice_get found number ≡ Some k → Serves w (b.Constant number) k
