-- The tokens that are written for JSON.
use Rattle.std.specs.Prelude.{ℕ, List, [], ◌∷◌, Option, Some, None, codes}
use Rattle.json.specs.Token.{Token, key, string}
use Rattle.rp_plain.specs.declared.reports.RuleName.{RuleName}
use Rattle.rp_plain.specs.declared.reports.ToldCulprit.{ToldCulprit}
use Rattle.rp_json.specs.Written.{list_of}
use Rattle.rp_json.specs.Tokens.{tokens_of}
use Rattle.rp_replies.specs.Replies.{culprit_data}

-- ---- members of a report that may be left out

abbrev pub culprits_tokens : List ℕ → List ToldCulprit → List Token
culprits_tokens at [] = []
culprits_tokens at (x ∷ xs) = key at ∷ tokens_of (list_of culprit_data (x ∷ xs))

abbrev pub rule_tokens : Option RuleName → List Token
rule_tokens None = []
rule_tokens (Some rule) = key (codes "of") ∷ string rule.of ∷ key (codes "rule") ∷ string rule.rule ∷ []

abbrev pub text_tokens : Option (List ℕ) → List Token
text_tokens None = []
text_tokens (Some text) = string text ∷ []
