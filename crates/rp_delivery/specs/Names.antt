-- The names that a delivery has.
use Rattle.std.specs.Prelude.{ℕ, List, [], ◌∷◌, ◌+◌, ◌/◌, ◌%◌, codes}

-- the partner who delivers
abbrev pub me : List ℕ
me = codes "me"

-- his group of all files
abbrev pub group_name : List ℕ
group_name = codes "all"

-- the model of the file of this number, in two digits
abbrev pub model_name : ℕ → List ℕ
model_name n = (48 + n / 10 % 10) ∷ (48 + n % 10) ∷ []
