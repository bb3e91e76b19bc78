-- What a cursor shows, and what it keeps.
use Rattle.std.specs.Prelude.{ℕ, zero, suc, ◌≡◌, ◌+◌, ◌-◌, ◌<◌, ◌≤◌, ◌^◌, length, List, take, drop, false}
use Rattle.std.specs.Str.{IsAscii}
use Rattle.p21_lexemes.specs.declared.tokens.Tokens.TheInside.{Inside}
use Rattle.p21_lexemes.specs.declared.token.TokenKind.{TokenKind}
use Rattle.p21_lexemes.specs.declared.token.TokenKind.TheVariants.{End, Word}
use Rattle.p21_tree.specs.declared.fault.FaultKind.{FaultKind}
use Rattle.p21_lexemes.specs.Tokens.{Lexemes, lexemes, before, faulty, same_kind}

-- The tokens of a text that begins at the place `at`, by the kind and the length of the first. Where that length is 0 no token comes, but a fault.
abbrev pub shown : TokenKind → FaultKind → ℕ → ℕ → List ℕ → Lexemes
shown kind fault zero at z = faulty fault at
shown kind fault (suc n) at z = before (record { kind = kind; at = at; text = take (suc n) z }) (lexemes (at + suc n) (drop (suc n) z))

-- where the next token begins
abbrev pub place : Inside → ℕ
place t = t.end - length t.left.now

abbrev pub shows : Inside → Lexemes
shows t = shown t.kind t.fault t.len (place t) t.left.now

-- The length is 0 at the end alone. A keyword is ASCII. No place is too great for a number.
pub record IsCut (t : Inside) : Type 0 where
  pub ended : t.len ≡ 0 → t.kind ≡ End
  pub goes_on : 0 < t.len → same_kind t.kind End ≡ false
  pub fits : t.len ≤ length t.left.now
  pub plain : t.kind ≡ Word → IsAscii (take t.len t.left.now)
  pub within : length t.left.now ≤ t.end
  pub range : t.end < 2 ^ 63
