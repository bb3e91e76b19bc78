use Rattle.std.proofs.Common.{◌+◌, length, string_bytes, ◌∙◌, arith}
use Rattle.shallow_json.proofs.StringLemmas.{string_read, quote_passed}
use Rattle.shallow_json.proofs.texts.string_from.Goals as goal

pub returns-then-bytes-stop-eq34-clause-read : goal.returns-then-bytes-stop-eq34-clause-read
returns-then-bytes-stop-eq34-clause-read c =
    let l = c.pieces in
    let run = c.in-Some.run'.now in
    string_read c.args.text.now (string_bytes l.string) run _ (l.at + length run) _ _ l.invariant.0 c.in-Some.ensures.read c.in-Some.ensures.short (grind arith) (grind arith)

pub returns-then-bytes-stop-eq34-clause-passed : goal.returns-then-bytes-stop-eq34-clause-passed
returns-then-bytes-stop-eq34-clause-passed c =
    let l = c.pieces in
    let run = c.in-Some.run'.now in
    l.invariant.1 ∙ c.in-Some.ensures.passed ∙ quote_passed c.args.text.now (l.at + length run) c.in-Some.ensures.short (grind arith)
