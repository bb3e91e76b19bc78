-- The tokens of a report's members, of which some may be left out.
use Rattle.std.proofs.Common.{◌≡◌, ℕ, List, [], ◌∷◌, ◌++◌, Option, Some, None, codes, refl, ap, ◌∙◌, append_assoc}
use Rattle.json.specs.Token.{Token, key, string, end_object}
use Rattle.json.specs.Tree.{members_tokens}
use Rattle.serde_json.specs.Data.{Members}
use Rattle.serde_json.specs.Written.{members_outline}
use Rattle.rp_plain.specs.declared.reports.RuleName.{RuleName}
use Rattle.rp_plain.specs.declared.reports.ToldCheck.{ToldCheck}
use Rattle.rp_plain.specs.declared.reports.ToldCulprit.{ToldCulprit}
use Rattle.rp_json.specs.Written.{with_string}
use Rattle.rp_replies.specs.Replies.{check_members, verdict_word, with_culprits, with_rule}
use Rattle.serde_json.specs.Data.{no_members}
use Rattle.rp_replies.specs.Tokens.{culprits_tokens, rule_tokens}

abbrev written : Members → List Token
written ms = members_tokens (members_outline ms)

culprits_first : (at : List ℕ) (xs : List ToldCulprit) (ms : Members) → written (with_culprits at xs ms) ≡ culprits_tokens at xs ++ written ms
culprits_first at [] ms = refl
culprits_first at (x ∷ xs) ms = refl

rule_first : (rule : Option RuleName) (ms : Members) → written (with_rule rule ms) ≡ rule_tokens rule ++ written ms
rule_first None ms = refl
rule_first (Some rule) ms = refl

-- the last member, and the end
abbrev pub verdict_tokens : ToldCheck → List Token
verdict_tokens x = key (codes "verdict") ∷ string (verdict_word x.verdict) ∷ end_object ∷ []

pub check_members-written : (x : ToldCheck) → written (check_members x)
    ≡ culprits_tokens (codes "false") x.violating ++ (culprits_tokens (codes "limit") x.limited ++ (culprits_tokens (codes "not_run") x.not_run ++ (rule_tokens x.rule ++ (culprits_tokens (codes "unknown") x.unknown ++ verdict_tokens x))))
check_members-written x =
    let verdict : Members = with_string (codes "verdict") (verdict_word x.verdict) no_members in
    let unknown : Members = with_culprits (codes "unknown") x.unknown verdict in
    let ruled : Members = with_rule x.rule unknown in
    let not_run : Members = with_culprits (codes "not_run") x.not_run ruled in
    let limited : Members = with_culprits (codes "limit") x.limited not_run in
    culprits_first (codes "false") x.violating limited ∙ ap (λ ts. culprits_tokens (codes "false") x.violating ++ ts)
    (culprits_first (codes "limit") x.limited not_run ∙ ap (λ ts. culprits_tokens (codes "limit") x.limited ++ ts)
    (culprits_first (codes "not_run") x.not_run ruled ∙ ap (λ ts. culprits_tokens (codes "not_run") x.not_run ++ ts)
    (rule_first x.rule unknown ∙ ap (λ ts. rule_tokens x.rule ++ ts) (culprits_first (codes "unknown") x.unknown verdict))))

-- one behind the other
pub in_turn : (a b c r u v : List Token) → ((((a ++ b) ++ c) ++ r) ++ u) ++ v ≡ a ++ (b ++ (c ++ (r ++ (u ++ v))))
in_turn a b c r u v =
    append_assoc (((a ++ b) ++ c) ++ r) u v ∙ append_assoc ((a ++ b) ++ c) r (u ++ v) ∙ append_assoc (a ++ b) c (r ++ (u ++ v))
    ∙ append_assoc a b (c ++ (r ++ (u ++ v)))
