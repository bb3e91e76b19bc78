use Rattle.std.proofs.Common.{◌≡◌, [], ◌∷◌, ◌++◌, ◌∙◌, ap, rules}
use Rattle.std.proofs.lemmas.Result.{on_ok_weaker}
use Rattle.std.specs.Fmt.{decimal}
use Rattle.json.specs.Token.{begin_array, string, number}
use Rattle.rp_rows.specs.declared.rows.Key.{Key}
use Rattle.rp_replies.specs.Replies.{instance_data}
use Rattle.rp_json.specs.Tokens.{tokens_of}
use Rattle.rp_json.proofs.ListLemmas.{joined}
use Rattle.rp_replies.proofs.lists.write_place.Goals as goal

pub returns-clause-ok : goal.returns-clause-ok
returns-clause-ok c =
    let old = c.args.out.now.tokens in
    let place = c.args.place.now in
    let key = c.key-model.result.now in
    let begun : c.begin_array.new.self.tokens ≡ old ++ begin_array ∷ [] = search rules in
    let owner : c.string.new.self.tokens ≡ c.begin_array.new.self.tokens ++ string key.owner ∷ [] = search rules in
    let model : c.string-2.new.self.tokens ≡ c.string.new.self.tokens ++ string key.name ∷ [] = search rules in
    let instance : c.u64.new.self.tokens ≡ c.string-2.new.self.tokens ++ number (decimal place.instance) ∷ [] = search rules in
    let two = joined old _ _ _ _ (joined old _ _ _ _ begun owner) model in
    on_ok_weaker c.end_array.result
    (λ ended. joined old _ _ _ _ (joined old _ _ _ _ two instance) ended ∙ ap (λ (k : Key). old ++ tokens_of (instance_data (record { model = k; instance = place.instance }))) c.key-model.ensures)
    c.end_array.ensures.ok
