use Rattle.std.proofs.Common.{◌≡◌, ◌≤◌, ◌∷◌, [], drop, length, min, option_and_then, Some, ap, ◌∙◌, arith}
use Rattle.std.specs.List.{fold}
use Rattle.json.specs.Json.{value, members}
use Rattle.json.specs.Lex.{fresh, between, lex, punctuate}
use Rattle.serde_json.specs.Data.{no_members}
use Rattle.serde_json.specs.Find.{as_object}
use Rattle.serde_json.specs.Read.{of_members, converted}
use Rattle.serde_json.specs.View.{members_view}
use Rattle.shallow_json.proofs.Reading.{whole}
use Rattle.shallow_json.proofs.Shallow.{members_read}
use Rattle.shallow_json.proofs.StringLemmas.{no_control, opened}
use Rattle.shallow_json.proofs.texts.read_texts.Goals as goal

pub members_from-requires-clause-printable : goal.members_from-requires-clause-printable
members_from-requires-clause-printable c =
    let same = c.as_bytes.ensures.value in
    let low : 32 ≤ fold min 255 c.args.text.now = rw (← same) (grind arith) in
    no_control 255 c.args.text.now low

pub returns-clause-read : goal.returns-clause-read
returns-clause-read c =
    let d = c.args.text.now in
    let from = c.in-Some.from in
    let same = c.as_bytes-2.ensures.value in
    let first = punctuate fresh (lex between (drop from d)) in
    let braced : lex between (drop 0 d) ≡ lex between (123 ∷ drop from d) = rw (← same) c.in-Some.ensures.0 in
    let read : converted (λ ms. of_members ms no_members) (members (value 126) (length first) first) ≡ Some (members_view c.in-Some-2.members.entries, []) = grind arith in
    ap (λ ts. option_and_then as_object (whole (value 127 ts))) (opened d from braced) ∙ members_read first (members_view c.in-Some-2.members.entries) read
