-- Texts of bytes below 128, by their parts.
use Rattle.std.proofs.Common.{◌≡◌, ◌<◌, ℕ, suc, ◌+◌, Bool, true, false, if◌then◌else◌, List, [], ◌∷◌, take, drop, refl, subst, arith}
use Rattle.std.proofs.lemmas.List.{take-append-drop}
use Rattle.std.proofs.lemmas.Str.{IsAscii-append}
use Rattle.std.proofs.lemmas.Str.Ascii.{IsAscii-cons, IsAscii-nil}
use Rattle.std.specs.List.{prefix_len}
use Rattle.std.specs.Str.{IsAscii}

-- what stands in front and what stands behind
pub parts_ascii : (n : ℕ) (z : List ℕ) → IsAscii (take n z) → IsAscii (drop n z) → IsAscii z
parts_ascii n z front behind = subst IsAscii (take-append-drop n z) (IsAscii-append (take n z) (drop n z) front behind)

-- a test that no byte passes from 128 on
module _ (test : ℕ → Bool) (low : (b : ℕ) → test b ≡ true → b < 128) where
  run_next : (t : Bool) (b : ℕ) (z : List ℕ) → test b ≡ t → IsAscii (take (prefix_len test z) z) → IsAscii (take (if t then 1 + prefix_len test z else 0) (b ∷ z))
  run_next true b z is more =
      let next : 1 + prefix_len test z ≡ suc (prefix_len test z) = omega arith in
      rw next (IsAscii-cons b (take (prefix_len test z) z) (low b is) more)
  run_next false b z is more = IsAscii-nil

  pub run_ascii : (z : List ℕ) → IsAscii (take (prefix_len test z) z)
  run_ascii [] = IsAscii-nil
  run_ascii (b ∷ z) = run_next (test b) b z refl (run_ascii z)
