-- What the steps of this crate give.
use Rattle.std.specs.Prelude.{◌≡◌, ℕ, List, Option, Some, None}
use Rattle.std.specs.Borrow.{Bor}
use Rattle.ex_warnings.specs.Warnings.{qualified}

-- what stands behind the schema's name and a dot, or that the text doesn't begin so
abbrev pub IsBehind : List ℕ → List ℕ → Option (Bor (List ℕ)) → Type 0
IsBehind schema text None = (name : List ℕ) → text ≡ qualified schema name → ⊥
IsBehind schema text (Some name) = text ≡ qualified schema name.now
