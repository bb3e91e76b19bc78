-- An empty string.
use Rattle.std.proofs.Common.{◌≡◌, ℕ, ◌==◌, false, List, [], ◌∷◌, None, refl}
use Rattle.std.specs.List.{slice_index}
use Rattle.p21_escapes.specs.Decoding as strings
use Rattle.p21_lexemes.specs.declared.token.TokenKind.TheVariants.{Text}
use Rattle.p21_lexemes.specs.declared.front.Start.TheVariants.{Token}
use Rattle.p21_lexemes.specs.Lexical.{string}

no_fault : strings.fault [] ≡ None
unfolding strings.fault strings.decoded strings.spelled
no_fault = refl

pub empty_string : (z : List ℕ) → slice_index z 1 ≡ 39 → (slice_index z 2 == 39) ≡ false → string z ≡ Token Text 2
unfolding string
empty_string [] quote none = cc
empty_string (a ∷ []) quote none = cc
empty_string (a ∷ b ∷ z) quote none = rw (quote, none, no_fault) refl
