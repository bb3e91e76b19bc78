-- Characters of texts.
use Rattle.std.proofs.Common.{◌≡◌, ℕ, ◌+◌, Bool, true, false, cond, if◌then◌else◌, List, [], ◌∷◌, ◌++◌, refl, sym, arith}
use Rattle.std.specs.List.{count_by}
use Rattle.std.specs.Fmt.{char_count, is_char_start}
use Rattle.std.proofs.lemmas.List.Recursion.{is_count_by}

step : (t : Bool) (n : ℕ) → (if t then 1 else 0) + n ≡ cond t (1 + n) n
step true n = omega arith
step false n = omega arith

pub counts : (text : List ℕ) → count_by is_char_start text ≡ char_count text
unfolding char_count
counts text = sym (is_count_by char_count is_char_start refl (λ b rest. step (is_char_start b) (char_count rest)) text)

pub joined : (s t : List ℕ) → char_count (s ++ t) ≡ char_count s + char_count t
unfolding char_count
joined [] t = omega arith
joined (b ∷ s) t = omega (arith, joined s t)
