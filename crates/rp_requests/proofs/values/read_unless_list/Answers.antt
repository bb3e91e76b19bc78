use Rattle.std.proofs.Common.{◌≡◌, List, [], ◌∷◌, None, Some, Option, option_map, refl, sym, ap, ◌∙◌, arith, rules}
use Rattle.json.specs.Token as spec
use Rattle.json.specs.Json.{parse_map, value}
use Rattle.json.specs.Reads.{token_of}
use Rattle.json.proofs.Grammar.{left_none, value_is}
use Rattle.serde_json.specs.Data.{Data, null, Items}
use Rattle.serde_json.specs.Read.{of_json, converted}
use Rattle.serde_json.specs.View.{view}
use Rattle.serde_json.specs.declared.value.Value.{Null, the_lemmas}
use Rattle.shallow_json.proofs.Passes.{value-scalar, after_object, object_seen}
use Rattle.rp_requests.specs.Kept.{seen}
use Rattle.rp_requests.proofs.KeptLemmas.{scalar_seen}
use Rattle.rp_requests.proofs.values.read_unless_list.Goals as goal

pub returns-in_err-token-clause-bad : goal.returns-in_err-token-clause-bad
returns-in_err-token-clause-bad c never =
    let empty : c.args.reader.now ≡ [] = grind arith in
    ap (converted of_json) (ap (value 126) empty ∙ value_is 126 [])

pub returns-in_err-skip_members-in-BeginObject-clause-bad : goal.returns-in_err-skip_members-in-BeginObject-clause-bad
returns-in_err-skip_members-in-BeginObject-clause-bad c never =
    let first : c.args.reader.now ≡ token_of c.in_ok-token.token ∷ c.next.new.self = grind arith in
    let opened : c.args.reader.now ≡ spec.begin_object ∷ c.next.new.self = first ∙ ap (λ k. token_of k ∷ c.next.new.self) c.in-BeginObject.is in
    ap (λ ts. converted of_json (value 126 ts)) opened ∙ left_none _ (after_object 126 c.next.new.self (omega arith) ∙ c.in_err-skip_members-in-BeginObject.ensures.value)

pub returns-in_err-read_scalar-in_default-clause-bad : goal.returns-in_err-read_scalar-in_default-clause-bad
returns-in_err-read_scalar-in_default-clause-bad c refused =
    let first : c.args.reader.now ≡ token_of c.in_ok-token.token ∷ c.next.new.self = grind arith in
    let read = ap (λ ts. converted of_json (value 126 ts)) first ∙ value-scalar 126 c.in_ok-token.token c.next.new.self c.in_default.not-BeginObject c.in_default.not-BeginArray in
    read ∙ ap (option_map {U = Data × List spec.Token} (λ d. (d, c.next.new.self))) (c.read_scalar.ensures.bad (grind arith))

pub returns-in_ok-skip_members-in-BeginObject-clause-ok : goal.returns-in_ok-skip_members-in-BeginObject-clause-ok
returns-in_ok-skip_members-in-BeginObject-clause-ok c =
    let first : c.args.reader.now ≡ token_of c.in_ok-token.token ∷ c.next.new.self = grind arith in
    let opened : c.args.reader.now ≡ spec.begin_object ∷ c.next.new.self = first ∙ ap (λ k. token_of k ∷ c.next.new.self) c.in-BeginObject.is in
    let is_null : view Null ≡ null = search (rules, the_lemmas) in
    let r = c.skip_members.new.reader in
    ap (λ ts. parse_map seen (converted of_json (value 126 ts))) opened ∙ object_seen seen (null, None) 126 c.next.new.self r (λ ms. refl) (omega arith) c.in_ok-skip_members-in-BeginObject.ensures.value
    ∙ ap {B = Option ((Data × Option Items) × List spec.Token)} (λ d. Some ((d, None), r)) (sym is_null)

pub returns-in_ok-read_scalar-in_default : goal.returns-in_ok-read_scalar-in_default
returns-in_ok-read_scalar-in_default c =
    let first : c.args.reader.now ≡ token_of c.in_ok-token.token ∷ c.next.new.self = grind arith in
    let read = ap (λ ts. converted of_json (value 126 ts)) first ∙ value-scalar 126 c.in_ok-token.token c.next.new.self c.in_default.not-BeginObject c.in_default.not-BeginArray in
    let kept = ap (parse_map seen) read ∙ scalar_seen (token_of c.in_ok-token.token) c.next.new.self in
    record {
      ok = kept ∙ ap (option_map {U = (Data × Option Items) × List spec.Token} (λ d. ((d, None), c.next.new.self))) c.in_ok-read_scalar-in_default.ensures.ok;
      shorter = rw first (omega arith);
      bad = λ never. absurd (cc);
    }
