use Rattle.std.proofs.Common.{◌≡◌, ◌∷◌, drop, string_bytes, ap, ◌∙◌, arith}
use Rattle.json.specs.Token.{string}
use Rattle.json.specs.Lex.{lex, between, token, colon}
use Rattle.shallow_json.proofs.StringLemmas.{operator_lexed}
use Rattle.shallow_json.proofs.texts.member_at.Goals as goal

pub returns-clause-read : goal.returns-clause-read
returns-clause-read c =
    let d = c.args.text.now in
    let k = token (string (string_bytes c.in-Some.key)) in
    let value = c.in-Some-taken.value in
    let same = c.as_bytes.ensures.value in
    let first : lex between (drop c.args.at d) ≡ k ∷ lex between (drop c.in-Some.behind d) = grind arith in
    let parted : lex between (drop c.in-Some.behind d) ≡ lex between (58 ∷ drop value d) = rw (← same) c.in-Some-taken.ensures.0 in
    let second : lex between (drop value d) ≡ token (string (string_bytes c.in-Some-2.string)) ∷ lex between (drop c.in-Some-2.end d) = grind arith in
    first ∙ ap (λ ls. k ∷ ls) (parted ∙ (operator_lexed _).0 ∙ ap (λ ls. colon ∷ ls) second)
