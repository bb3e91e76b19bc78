use Rattle.std.proofs.Common.{◌∷◌, ap, ◌∙◌, arith}
use Rattle.json.specs.Token.{end_object}
use Rattle.json.specs.Lex.{token}
use Rattle.shallow_json.proofs.StringLemmas.{operator_lexed, nothing_lexed}
use Rattle.shallow_json.proofs.texts.behind_member.Goals as goal

pub returns-in-Some : goal.returns-in-Some
returns-in-Some c = (c.in-Some.ensures.0 ∙ (operator_lexed _).1, c.in-Some.ensures.1, c.in-Some.ensures.2)

pub returns-in-Some-taken : goal.returns-in-Some-taken
returns-in-Some-taken c =
    c.in-Some-taken.ensures.0 ∙ (operator_lexed _).2 ∙ ap (λ ls. token end_object ∷ ls) (c.after_spaces.ensures.same ∙ nothing_lexed c.args.bytes.now c.after_spaces.result (grind arith))
