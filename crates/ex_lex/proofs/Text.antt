-- UTF-8, and groups of hexadecimal digits.
use Rattle.std.proofs.Common.{◌≡◌, ℕ, ◌≤◌, true, List, [], ◌∷◌, length, take, drop, Option, Some, None, Result, Ok, Err, refl, sym, inl, inr, arith}
use Rattle.std.specs.Option.{is_some}
use Rattle.std.specs.Result.{is_ok, MatchResult}
use Rattle.std.specs.Str.{IsUtf8, is_utf8}
use Rattle.std.proofs.lemmas.Str.{is_utf8-from_IsUtf8, IsUtf8-from_is_utf8}
use Rattle.std.proofs.lemmas.Bool.{cases_Bool}
use Rattle.ex_lex.specs.Strings.{character, characters, before}

pub decided : {T E : Type 0} (A : T → Type 0) (B : E → Type 0) (bs : List ℕ) (r : Result T E)
    → MatchResult r (λ s. A s × IsUtf8 bs) (λ e. ¬ (IsUtf8 bs) × B e) → is_ok r ≡ is_utf8 bs
decided A B bs (Ok s) told = sym (is_utf8-from_IsUtf8 bs (told.1))
decided A B bs (Err e) told =
    elim (cases_Bool (is_utf8 bs)) [
      | inl is ↦ absurd (told.0 (IsUtf8-from_is_utf8 bs is))
      | inr unlike ↦ sym unlike
    ]

some_more : (c : Option ℕ) (others : Option (List ℕ)) → is_some c ≡ true → is_some (before c others) ≡ is_some others
some_more None others some = cc
some_more (Some c) None some = refl
some_more (Some c) (Some cs) some = refl

-- a good group in front
pub characters-group : (z : List ℕ) → 8 ≤ length z → is_some (character (take 8 z)) ≡ true → is_some (characters z) ≡ is_some (characters (drop 8 z))
characters-group (a ∷ b ∷ c ∷ d ∷ e ∷ f ∷ g ∷ h ∷ z) long some = some_more (character (a ∷ b ∷ c ∷ d ∷ e ∷ f ∷ g ∷ h ∷ [])) (characters z) some
characters-group [] long some = absurd (omega arith)
characters-group (a ∷ []) long some = absurd (omega arith)
characters-group (a ∷ b ∷ []) long some = absurd (omega arith)
characters-group (a ∷ b ∷ c ∷ []) long some = absurd (omega arith)
characters-group (a ∷ b ∷ c ∷ d ∷ []) long some = absurd (omega arith)
characters-group (a ∷ b ∷ c ∷ d ∷ e ∷ []) long some = absurd (omega arith)
characters-group (a ∷ b ∷ c ∷ d ∷ e ∷ f ∷ []) long some = absurd (omega arith)
characters-group (a ∷ b ∷ c ∷ d ∷ e ∷ f ∷ g ∷ []) long some = absurd (omega arith)
