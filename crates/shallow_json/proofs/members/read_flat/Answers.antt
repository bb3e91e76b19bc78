use Rattle.std.proofs.Common.{◌≡◌, ◌<◌, List, option_map, [], ◌∷◌, length, Some, refl, sym, ap, ◌∙◌, arith, rules}
use Rattle.std.proofs.lemmas.Result.{IfOk-weaker}
use Rattle.json.specs.Token as spec
use Rattle.json.specs.Json.{parse_map, value}
use Rattle.json.specs.Reads.{token_of}
use Rattle.json.proofs.Grammar.{left_none, value_is}
use Rattle.serde_json.specs.Data.{Data, null}
use Rattle.serde_json.specs.Read.{of_json, converted}
use Rattle.serde_json.specs.View.{view}
use Rattle.serde_json.specs.declared.value.Value.{Null, the_lemmas}
use Rattle.serde_json.proofs.Views.{view-Object}
use Rattle.shallow_json.specs.Shallow.{flat}
use Rattle.shallow_json.proofs.Passes.{value-scalar, after_list, flat_scalar, flat_object, list_seen, object_refused}
use Rattle.shallow_json.proofs.members.read_flat.Goals as goal

pub returns-in_err-token-clause-bad : goal.returns-in_err-token-clause-bad
returns-in_err-token-clause-bad c never =
    let empty : c.args.reader.now ≡ [] = grind arith in
    ap (converted of_json) (ap (value c.args.depth) empty ∙ value_is c.args.depth [])

pub returns-in_err-skip_items-in-BeginArray-clause-bad : goal.returns-in_err-skip_items-in-BeginArray-clause-bad
returns-in_err-skip_items-in-BeginArray-clause-bad c never =
    let first : c.args.reader.now ≡ token_of c.in_ok-token.token ∷ c.next.new.self = grind arith in
    let opened : c.args.reader.now ≡ spec.begin_array ∷ c.next.new.self = first ∙ ap (λ k. token_of k ∷ c.next.new.self) c.in-BeginArray.is in
    ap (λ ts. converted of_json (value c.args.depth ts)) opened ∙ left_none _ (after_list c.args.depth c.next.new.self (omega arith) ∙ c.in_err-skip_items-in-BeginArray.ensures.value)

pub returns-in_ok-skip_items-in-BeginArray-clause-ok : goal.returns-in_ok-skip_items-in-BeginArray-clause-ok
returns-in_ok-skip_items-in-BeginArray-clause-ok c =
    let first : c.args.reader.now ≡ token_of c.in_ok-token.token ∷ c.next.new.self = grind arith in
    let opened : c.args.reader.now ≡ spec.begin_array ∷ c.next.new.self = first ∙ ap (λ k. token_of k ∷ c.next.new.self) c.in-BeginArray.is in
    let seen : view Null ≡ null = search (rules, the_lemmas) in
    ap (λ ts. parse_map flat (converted of_json (value c.args.depth ts))) opened ∙ list_seen flat null c.args.depth c.next.new.self c.skip_items.new.reader (λ ds. refl) (omega arith) c.in_ok-skip_items-in-BeginArray.ensures.value
    ∙ ap (λ d. Some (d, c.skip_items.new.reader)) (sym seen)

pub returns-in_err-read_members-in-BeginObject-clause-bad : goal.returns-in_err-read_members-in-BeginObject-clause-bad
returns-in_err-read_members-in-BeginObject-clause-bad c refused =
    let first : c.args.reader.now ≡ token_of c.in_ok-token.token ∷ c.next.new.self = grind arith in
    let opened : c.args.reader.now ≡ spec.begin_object ∷ c.next.new.self = first ∙ ap (λ k. token_of k ∷ c.next.new.self) c.in-BeginObject.is in
    ap (λ ts. converted of_json (value c.args.depth ts)) opened ∙ object_refused c.args.depth c.next.new.self (omega arith) (c.read_members.ensures.bad (grind arith))

pub returns-in_ok-read_members-in-BeginObject-clause-ok : goal.returns-in_ok-read_members-in-BeginObject-clause-ok
returns-in_ok-read_members-in-BeginObject-clause-ok c =
    let first : c.args.reader.now ≡ token_of c.in_ok-token.token ∷ c.next.new.self = grind arith in
    let opened : c.args.reader.now ≡ spec.begin_object ∷ c.next.new.self = first ∙ ap (λ k. token_of k ∷ c.next.new.self) c.in-BeginObject.is in
    let done = c.in_ok-read_members-in-BeginObject in
    ap (λ ts. parse_map flat (converted of_json (value c.args.depth ts))) opened ∙ flat_object c.args.depth c.next.new.self c.read_members.new.reader _ (omega arith) done.ensures.ok
    ∙ ap (λ d. Some (d, c.read_members.new.reader)) (sym (view-Object done.field-0))

pub returns-in_default : goal.returns-in_default
returns-in_default c =
    let first : c.args.reader.now ≡ token_of c.in_ok-token.token ∷ c.next.new.self = grind arith in
    let read = ap (λ ts. converted of_json (value c.args.depth ts)) first ∙ value-scalar c.args.depth c.in_ok-token.token c.next.new.self c.in_default.not-BeginObject c.in_default.not-BeginArray in
    let kept = ap (parse_map flat) read ∙ flat_scalar (token_of c.in_ok-token.token) c.next.new.self in
    let less : length c.next.new.self < length c.args.reader.now = rw first (omega arith) in
    record {
      ok = IfOk-weaker c.read_scalar.result _ _ (λ v e. kept ∙ ap (option_map {U = Data × List spec.Token} (λ d. (d, c.next.new.self))) e) c.read_scalar.ensures.ok;
      shorter = IfOk-weaker c.read_scalar.result _ _ (λ v e. less) c.read_scalar.ensures.ok;
      bad = λ h. read ∙ ap (option_map {U = Data × List spec.Token} (λ d. (d, c.next.new.self))) (c.read_scalar.ensures.bad h);
    }
