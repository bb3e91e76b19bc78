-- Marks of members that were placed.
use Rattle.std.specs.Prelude.{◌≡◌, ℕ, Bool, List, IfSome, slice_get}
use Rattle.plain_data.specs.Numbers.{is_among}

-- each mark says whether its member is among those
abbrev pub AreMarks : List Bool → List ℕ → Type 0
AreMarks marks placed = (n : ℕ) → IfSome (slice_get marks n) (λ mark. mark ≡ is_among placed n)
