-- Types at places of a list.
use Rattle.std.proofs.Common.{◌≡◌, ℕ, zero, suc, List, [], ◌∷◌, ◌++◌, map, length, slice_get, Some, refl, ap}
use Rattle.ex_selects.specs.declared.ends.Target as code
use Rattle.ex_selects.specs.Ends.{Target}
use Rattle.ex_selects.specs.Seen.{seen_target}

pub seen_at : (ts : List code.Target) (place : ℕ) (t : code.Target) → slice_get ts place ≡ Some t → slice_get (map seen_target ts) place ≡ Some (seen_target t)
seen_at [] place t e = cc
seen_at (x ∷ ts) zero t e = let same : x ≡ t = cc in ap (λ t. Some (seen_target t)) same
seen_at (x ∷ ts) (suc place) t e = seen_at ts place t e

pub kept_at : (ds : List Target) (d : Target) (place : ℕ) (t : Target) → slice_get ds place ≡ Some t → slice_get (ds ++ d ∷ []) place ≡ Some t
kept_at [] d place t e = cc
kept_at (x ∷ ds) d zero t e = e
kept_at (x ∷ ds) d (suc place) t e = kept_at ds d place t e

pub new_at : (ds : List Target) (d : Target) → slice_get (ds ++ d ∷ []) (length ds) ≡ Some d
new_at [] d = refl
new_at (x ∷ ds) d = new_at ds d
