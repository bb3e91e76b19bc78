use Rattle.std.proofs.Common.{◌≡◌, [], ◌∷◌, ◌++◌, codes, sym, ap, ◌∙◌, append_assoc, rules}
use Rattle.std.proofs.lemmas.Result.{on_ok_weaker}
use Rattle.json.specs.Token.{begin_object, end_object, key, string}
use Rattle.rp_replies.specs.Replies.{check_word, verdict_word}
use Rattle.rp_replies.specs.Tokens.{culprits_tokens, rule_tokens}
use Rattle.rp_json.proofs.ListLemmas.{joined}
use Rattle.rp_replies.proofs.ReportLemmas.{check_members-written, in_turn, verdict_tokens}
use Rattle.rp_replies.proofs.reports.write_check.Goals as goal

pub returns-clause-ok : goal.returns-clause-ok
returns-clause-ok c =
    let old = c.args.out.now.tokens in
    let check = c.args.check.now in
    let violating = culprits_tokens (codes "false") check.violating in
    let limited = culprits_tokens (codes "limit") check.limited in
    let not_run = culprits_tokens (codes "not_run") check.not_run in
    let rule = rule_tokens check.rule in
    let unknown = culprits_tokens (codes "unknown") check.unknown in
    let verdict = key (codes "verdict") ∷ string (verdict_word check.verdict) ∷ [] in
    let front = begin_object ∷ key (codes "check") ∷ string (check_word check.kind) ∷ [] in
    let begun : c.begin_object.new.self.tokens ≡ old ++ begin_object ∷ [] = search rules in
    let kind : c.string_at.new.out.tokens ≡ c.begin_object.new.self.tokens ++ key (codes "check") ∷ string (check_word check.kind) ∷ [] = search rules in
    let named : c.write_rule.new.out.tokens ≡ c.write_violations.new.out.tokens ++ rule = search rules in
    let undecided : c.write_culprits.new.out.tokens ≡ c.write_rule.new.out.tokens ++ unknown = search rules in
    let judged : c.string_at-2.new.out.tokens ≡ c.write_culprits.new.out.tokens ++ verdict = search rules in
    let violated = joined old front _ ((violating ++ limited) ++ not_run) _ (joined old _ _ _ _ begun kind) c.in_ok-write_violations.ensures.ok in
    let told = joined old _ _ unknown _ (joined old _ _ rule _ violated named) undecided in
    let all = joined old _ _ verdict _ told judged in
    let ends = append_assoc ((((violating ++ limited) ++ not_run) ++ rule) ++ unknown) verdict (end_object ∷ []) ∙ in_turn violating limited not_run rule unknown (verdict_tokens check) ∙ sym (check_members-written check) in
    on_ok_weaker c.end_object.result (λ e. joined old _ _ _ _ all e ∙ ap (λ ts. old ++ (front ++ ts)) ends) c.end_object.ensures.ok
