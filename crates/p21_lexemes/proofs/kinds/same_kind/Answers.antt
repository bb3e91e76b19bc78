use Rattle.std.proofs.Common.{rules, sym, ◌∙◌}
use denote.Enum.Bare.{same_true}
use Rattle.p21_lexemes.specs.contracts.token.TokenKind.{the_type}
use Rattle.p21_lexemes.specs.Tokens.{same_kind}
use Rattle.p21_lexemes.proofs.kinds.same_kind.Goals as goal

pub returns-clause-value : goal.returns-clause-value
unfolding same_kind
returns-clause-value c = search rules

pub returns-clause-same : goal.returns-clause-same
returns-clause-same c is = same_true the_type (search rules) _ _ (sym c.eq.ensures ∙ is)
