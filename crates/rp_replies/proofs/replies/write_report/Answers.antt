use Rattle.std.proofs.Common.{◌≡◌, [], ◌∷◌, ◌++◌, codes, ap, sym, ◌∙◌, append_assoc, rules}
use Rattle.std.proofs.lemmas.Result.{on_ok_weaker}
use Rattle.std.specs.Fmt.{decimal}
use Rattle.json.specs.Token.{begin_object, end_object, key, number}
use Rattle.rp_json.specs.Written.{list_of}
use Rattle.rp_json.specs.Tokens.{tokens_of}
use Rattle.rp_json.proofs.ListLemmas.{joined}
use Rattle.rp_replies.specs.Replies.{check_data}
use Rattle.rp_replies.proofs.replies.write_report.Goals as goal

pub returns-clause-ok : goal.returns-clause-ok
returns-clause-ok c =
    let old = c.args.out.now.tokens in
    let report = c.args.report.now in
    let list = tokens_of (list_of check_data report.checks) in
    let steps = key (codes "steps") ∷ number (decimal report.steps) ∷ [] in
    let front = begin_object ∷ key (codes "ok") ∷ begin_object ∷ key (codes "checks") ∷ [] in
    let keyed : c.key.new.self.tokens ≡ c.open.new.out.tokens ++ key (codes "checks") ∷ [] = search rules in
    let counted : c.number_at.new.out.tokens ≡ c.write_checks.new.out.tokens ++ steps = search rules in
    let told : c.write_checks.new.out.tokens ≡ c.key.new.self.tokens ++ list =
    c.in_ok-write_checks.ensures.ok ∙ ap (λ checks. c.key.new.self.tokens ++ tokens_of (list_of check_data checks)) c.as_slice.ensures in
    let listed = joined old front _ list _ (joined old _ _ _ _ c.in_ok-open.ensures.ok keyed) told in
    let all = joined old _ _ steps _ listed counted in
    let ends = append_assoc list steps (end_object ∷ end_object ∷ []) ∙ sym (append_assoc list (steps ++ end_object ∷ []) (end_object ∷ [])) in
    on_ok_weaker c.close.result (λ e. joined old _ _ _ _ all e ∙ ap (λ ts. old ++ (front ++ ts)) ends) c.close.ensures.ok
