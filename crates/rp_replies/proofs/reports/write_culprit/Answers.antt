use Rattle.std.proofs.Common.{◌≡◌, [], ◌∷◌, ◌++◌, Option, Some, None, List, ℕ, refl, ap, ◌∙◌, rules}
use Rattle.std.proofs.lemmas.Result.{on_ok_weaker}
use Rattle.std.specs.Fmt.{decimal}
use Rattle.json.specs.Token.{begin_array, end_array, string, number}
use Rattle.json.specs.Tree.{items_tokens}
use Rattle.serde_json.specs.Written.{items_outline}
use Rattle.rp_replies.specs.Replies.{item_if_any}
use Rattle.rp_replies.specs.Tokens.{text_tokens}
use Rattle.rp_json.proofs.ListLemmas.{joined}
use Rattle.rp_replies.proofs.reports.write_culprit.Goals as goal

last : (text : Option (List ℕ)) → text_tokens text ++ end_array ∷ [] ≡ items_tokens (items_outline (item_if_any text))
last None = refl
last (Some text) = refl

pub returns-clause-ok : goal.returns-clause-ok
returns-clause-ok c =
    let old = c.args.out.now.tokens in
    let culprit = c.args.culprit.now in
    let begun : c.begin_array.new.self.tokens ≡ old ++ begin_array ∷ [] = search rules in
    let owner : c.string.new.self.tokens ≡ c.begin_array.new.self.tokens ++ string culprit.model.owner ∷ [] = search rules in
    let model : c.string-2.new.self.tokens ≡ c.string.new.self.tokens ++ string culprit.model.name ∷ [] = search rules in
    let instance : c.u64.new.self.tokens ≡ c.string-2.new.self.tokens ++ number (decimal culprit.instance) ∷ [] = search rules in
    let attribute : c.write_text.new.out.tokens ≡ c.u64.new.self.tokens ++ text_tokens culprit.attribute = search rules in
    let three = joined old _ _ _ _ (joined old _ _ _ _ (joined old _ _ _ _ begun owner) model) instance in
    on_ok_weaker c.end_array.result
    (λ e. joined old _ _ _ _ (joined old _ _ _ _ three attribute) e
    ∙ ap (λ ts. old ++ begin_array ∷ string culprit.model.owner ∷ string culprit.model.name ∷ number (decimal culprit.instance) ∷ ts) (last culprit.attribute))
    c.end_array.ensures.ok
