-- What is written one after another.
use Rattle.std.specs.Prelude.{ℕ, Bool, true, false, List, ◌∷◌}

-- the first, or one behind a comma
abbrev pub next : Bool → List ℕ → List ℕ
next true text = text
next false text = 44 ∷ text
