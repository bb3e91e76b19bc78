use Rattle.std.proofs.Common.{◌≡◌, ◌∷◌, drop, string_bytes, Some, ◌∙◌, arith}
use Rattle.json.specs.Text.{content, plain}
use Rattle.json.specs.Lex.{lex, between, in_string}
use Rattle.shallow_json.proofs.StringLemmas.{string_lexed}
use Rattle.shallow_json.proofs.texts.string_at.Goals as goal

pub returns-clause-read : goal.returns-clause-read
returns-clause-read c =
    let d = c.args.text.now in
    let from = c.in-Some.from in
    let same = c.as_bytes.ensures.value in
    let quoted : lex between (drop c.args.at d) ≡ lex between (34 ∷ drop from d) = rw (← same) c.in-Some.ensures.0 in
    let read : content plain (drop from d) ≡ Some (string_bytes c.in-Some-2.string) = grind arith in
    let passed : lex in_string (drop from d) ≡ lex between (drop c.in-Some-2.end d) = grind arith in
    quoted ∙ string_lexed d (string_bytes c.in-Some-2.string) from c.in-Some-2.end read passed
