use Rattle.std.proofs.Common.{◌≡◌, [], ◌∷◌, Some, option_map, option_and_then, ap, ◌∙◌, arith}
use Rattle.json.specs.Lex.{tokens}
use Rattle.json.specs.Token.{begin_object}
use Rattle.json.specs.Reads.{token_of}
use Rattle.json.specs.Json.{value}
use Rattle.serde_json.specs.Find.{as_object}
use Rattle.shallow_json.proofs.Reading.{whole}
use Rattle.shallow_json.proofs.Shallow.{mapped_some, members_read, members_and_more, members_refused, no_object}
use Rattle.rp_requests.specs.Kept.{kept}
use Rattle.rp_requests.proofs.lines.read_any_object.Goals as goal

pub returns-in_err-read-clause-bad : goal.returns-in_err-read-clause-bad
returns-in_err-read-clause-bad c refused =
    let r = c.take_begin_object.new.reader in
    let opened : tokens c.args.text.now ≡ begin_object ∷ r = grind arith in
    ap (λ ts. option_and_then as_object (whole (value 127 ts))) opened ∙ members_refused r (c.read_members.ensures.bad (grind arith))

pub returns-then-not-take_begin_object-clause-bad : goal.returns-then-not-take_begin_object-clause-bad
returns-then-not-take_begin_object-clause-bad c never = no_object (tokens c.args.text.now) (grind arith)

pub returns-clause-bad : goal.returns-clause-bad
returns-clause-bad c never =
    let r = c.take_begin_object.new.reader in
    let opened : tokens c.args.text.now ≡ begin_object ∷ r = grind arith in
    let rest : c.read_members.new.reader ≡ token_of c.in-Some.field-0 ∷ c.next.new.self = grind arith in
    let read = mapped_some kept _ _ _ c.in_ok-read.ensures.ok in
    ap (λ ts. option_and_then as_object (whole (value 127 ts))) opened ∙ members_and_more r c.next.new.self (token_of c.in-Some.field-0) read.0 (read.1 ∙ ap (λ ts. Some (read.0, ts)) rest)

pub returns-in-None-clause-ok : goal.returns-in-None-clause-ok
returns-in-None-clause-ok c =
    let r = c.take_begin_object.new.reader in
    let opened : tokens c.args.text.now ≡ begin_object ∷ r = grind arith in
    let none : c.read_members.new.reader ≡ [] = grind arith in
    let read = mapped_some kept _ _ _ c.in_ok-read.ensures.ok in
    ap (λ ts. option_map kept (option_and_then as_object (whole (value 127 ts)))) opened ∙ ap (option_map kept) (members_read r read.0 (read.1 ∙ ap (λ ts. Some (read.0, ts)) none)) ∙ ap Some read.2
