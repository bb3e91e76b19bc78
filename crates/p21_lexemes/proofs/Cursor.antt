-- What a cursor shows, by what it keeps of the next token.
use Rattle.std.proofs.Common.{◌≡◌, ℕ, zero, suc, ◌<◌, ◌≤◌, false, List, take, length, Some, refl, sym, arith}
use denote.Enum.Bare.{same_false}
use Rattle.text_forms.specs.Forms.{first, turns}
use Rattle.p21_lexemes.specs.contracts.token.TokenKind.{the_type}
use Rattle.p21_lexemes.specs.declared.token.TokenKind.{TokenKind}
use Rattle.p21_lexemes.specs.declared.token.TokenKind.TheVariants.{End}
use Rattle.p21_lexemes.specs.declared.front.Start.TheVariants.{Token}
use Rattle.p21_tree.specs.declared.fault.FaultKind.{FaultKind}
use Rattle.p21_lexemes.specs.Lexical.{front}
use Rattle.p21_lexemes.specs.Tokens.{lexemes, same_kind}
use Rattle.p21_lexemes.specs.Cursor.{shown}
use Rattle.p21_lexemes.proofs.Lexemes.{lexemes-token}

pub shown-token : (at n : ℕ) (kind : TokenKind) (fault : FaultKind) (z : List ℕ) → front z ≡ Token kind n → 1 ≤ n → n ≤ length z → shown kind fault n at z ≡ lexemes at z
shown-token at zero kind fault z e some fits = absurd (omega arith)
shown-token at (suc n) kind fault z e some fits = sym (lexemes-token at (suc n) kind z e some fits)

pub has_len : (kind : TokenKind) (n : ℕ) → (n ≡ 0 → kind ≡ End) → same_kind kind End ≡ false → 0 < n
unfolding same_kind
has_len kind zero ended other = absurd (same_false the_type kind End other (ended refl))
has_len kind (suc n) ended other = omega arith

pub has_turn : (kind : TokenKind) (fault : FaultKind) (n at : ℕ) (z : List ℕ) → 0 < n → 0 < turns (shown kind fault n at z)
has_turn kind fault zero at z some = absurd (omega arith)
has_turn kind fault (suc n) at z some = omega arith

pub first_is : (kind : TokenKind) (fault : FaultKind) (n at : ℕ) (z : List ℕ) → 0 < n
    → Some (record { kind = kind; at = at; text = take n z }) ≡ first (shown kind fault n at z)
first_is kind fault zero at z some = absurd (omega arith)
first_is kind fault (suc n) at z some = refl
