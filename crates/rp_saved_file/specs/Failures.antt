-- What was written, and how many writes failed.
use Rattle.std.specs.Prelude.{◌≡◌, ℕ, ◌+◌, List, [], Option, None, Some, IfSome}
use Rattle.rp_saved_file.specs.declared.replacing.Failed.{Failed}

-- none, or the first one and those more
abbrev pub failures_of : Option Failed → ℕ
failures_of None = 0
failures_of (Some failed) = failed.more + 1

-- Nothing was written yet, where this is known, and no write failed, nor any other call.
abbrev pub IsNew : Option (List ℕ) → Option Failed → ℕ → Type 0
IsNew contents failed failures = IfSome contents (λ bytes. bytes ≡ []) × (failures_of failed ≡ 0) × (failures ≡ 0)
