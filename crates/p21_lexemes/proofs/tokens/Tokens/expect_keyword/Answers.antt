use Rattle.std.proofs.Common.{rules, ◌≡◌, ◌∙◌, sym, ap, true, false, List, [], ◌∷◌, Some, None}
use denote.Enum.Bare.{same_true}
use Rattle.p21_lexemes.specs.contracts.token.TokenKind.{the_type}
use Rattle.p21_lexemes.specs.declared.token.TokenKind.TheVariants.{Word}
use Rattle.p21_lexemes.specs.Tokens.{Lexeme, same_kind}
use Rattle.p21_lexemes.proofs.tokens.Tokens.expect_keyword.Goals as goal

is_word : (ts : List Lexeme) (t : Lexeme) → elim ts [ [] ↦ false | u ∷ us ↦ same_kind u.kind Word ] ≡ true → Some t ≡ elim ts [ [] ↦ None | u ∷ us ↦ Some u ] → t.kind ≡ Word
unfolding same_kind
is_word [] t sees takes = cc
is_word (u ∷ us) t sees takes = let same : t ≡ u = cc in ap (λ l. l.kind) same ∙ same_true the_type (search rules) u.kind Word sees

pub returns-in-Some-clause-plain : goal.returns-in-Some-clause-plain
returns-in-Some-clause-plain c =
    let word = is_word c.args.self.now.tokens _ (sym c.sees.ensures ∙ c.if-not-sees.false) c.in-Some.ensures.token in
    c.in-Some.keyword.plain word
