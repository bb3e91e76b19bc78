-- What a file is called that is to take the place of another.
use Rattle.std.specs.Prelude.{◌≡◌, ℕ, List, [], ◌∷◌, ◌++◌}

-- the bytes of ".part"
abbrev pub behind : List ℕ
behind = 46 ∷ 112 ∷ 97 ∷ 114 ∷ 116 ∷ []

-- the one of this path, and the other of the path with ".part" behind it
abbrev pub IsBeside : (asked path beside : List ℕ) → Type 0
IsBeside asked path beside = (path ≡ asked) × (beside ≡ asked ++ behind)
