use Rattle.std.proofs.Common.{◌≡◌, ◌++◌, map, drop}
use Rattle.std.specs.List.{filter_map}
use Rattle.ex_lex.specs.Lexeme.{lexeme}
use Rattle.ex_expressions.specs.Strings as spec
use Rattle.ex_expressions.proofs.string_tokens.strings.Given as goal

abbrev pub invariant-loop-token : goal.invariant-loop-token
invariant-loop-token l = l.found ++ filter_map spec.string_token (map lexeme (drop l.token-index l.tokens)) ≡ filter_map spec.string_token (map lexeme l.tokens)
