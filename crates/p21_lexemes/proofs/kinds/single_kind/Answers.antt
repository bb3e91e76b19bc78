-- The table is held against the definition at each of its places, by computing.
use Rattle.std.proofs.Common.{◌≡◌, ◌∙◌, ℕ, ◌+◌, ◌-◌, ◌<◌, ◌≤◌, ◌==◌, ◌&&◌, ◌||◌, Bool, true, false, get_or, refl, ap, subst, arith, rules}
use Rattle.std.proofs.lemmas.Bool.{agree_below_at}
use denote.Enum.Bare.{same_true}
use Rattle.p21_lexemes.specs.contracts.token.TokenKind.{the_type}
use Rattle.p21_lexemes.specs.declared.token.TokenKind.{TokenKind}
use Rattle.p21_lexemes.specs.declared.token.TokenKind.TheVariants.{Word, End}
use Rattle.p21_lexemes.specs.declared.front.Start.{Start}
use Rattle.p21_lexemes.specs.declared.front.Start.TheVariants.{Blank, Token, Fault}
use Rattle.p21_lexemes.specs.declared.kinds.TheConstants.{SINGLE_KINDS}
use Rattle.p21_lexemes.specs.Lexical.{single}
use Rattle.p21_lexemes.specs.Tokens.{same_kind}
use Rattle.p21_lexemes.proofs.kinds.single_kind.Goals as goal

abbrev is_of : TokenKind → Start → Bool
is_of kind (Token other n) = same_kind other kind && n == 1
is_of kind _ = false

abbrev agrees : TokenKind → Start → Bool
agrees kind s = same_kind kind End || is_of kind s

one_byte : (kind other : TokenKind) (n : ℕ) (t : Bool) → same_kind other kind ≡ t → t && n == 1 ≡ true → Token other n ≡ Token kind 1
unfolding same_kind
one_byte kind other n true e both =
    let same = same_true the_type (search rules) other kind e in
    let one : n ≡ 1 = grind arith in
    ap (λ k. Token k n) same ∙ ap (Token kind) one
one_byte kind other n false e both = cc

is_token : (kind : TokenKind) (s : Start) → is_of kind s ≡ true → s ≡ Token kind 1
is_token kind (Token other n) e = one_byte kind other n (same_kind other kind) refl e
is_token kind (Blank n) e = cc
is_token kind (Fault fault) e = cc

either : (a b : Bool) → a || b ≡ true → a ≡ false → b ≡ true
either true b some other = cc
either false b some other = some

in_table : (i : ℕ) → i < 26 → agrees (get_or SINGLE_KINDS i Word) (single (36 + i)) ≡ true
unfolding same_kind
in_table i less = agree_below_at (λ i. agrees (get_or SINGLE_KINDS i Word) (single (36 + i))) (λ _. true) 26 i refl less

from_table : (b i : ℕ) (kind : TokenKind) → i ≡ b - 36 → 36 ≤ b → b ≤ 61 → kind ≡ get_or SINGLE_KINDS i Word → same_kind kind End ≡ false → single b ≡ Token kind 1
from_table b i kind place least most is other =
    let there : 36 + i ≡ b = omega arith in
    let found = ap (λ k. agrees k (single (36 + i))) is ∙ in_table i (omega arith) in
    subst (λ b. single b ≡ Token kind 1) there (is_token kind (single (36 + i)) (either (same_kind kind End) (is_of kind (single (36 + i))) found other))

pub returns-then-b-le61 : goal.returns-then-b-le61
returns-then-b-le61 c = λ other. from_table c.args.b c.from.result _ c.from.ensures c.if-b-ge36.true c.if-b-le61.true refl other

pub returns-else-b-ge36 : goal.returns-else-b-ge36
unfolding same_kind
returns-else-b-ge36 c other = cc
