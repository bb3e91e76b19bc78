use Rattle.std.proofs.Common.{◌≡◌, [], ◌∷◌, ◌++◌, codes, rules}
use Rattle.std.proofs.lemmas.Result.{on_ok_weaker}
use Rattle.std.specs.Fmt.{decimal}
use Rattle.json.specs.Token.{begin_object, key, string, number}
use Rattle.rp_json.proofs.ListLemmas.{joined}
use Rattle.rp_json.proofs.links.write_link.Goals as goal

pub returns-clause-ok : goal.returns-clause-ok
returns-clause-ok c =
    let old = c.args.out.now.tokens in
    let link = c.args.link.now in
    let begun : c.begin_object.new.self.tokens ≡ old ++ begin_object ∷ [] = search rules in
    let instance : c.number_at.new.out.tokens ≡ c.begin_object.new.self.tokens ++ key (codes "instance") ∷ number (decimal link.target) ∷ [] = search rules in
    let model : c.string_at.new.out.tokens ≡ c.number_at.new.out.tokens ++ key (codes "model") ∷ string link.model ∷ [] = search rules in
    let name : c.number_at-2.new.out.tokens ≡ c.string_at.new.out.tokens ++ key (codes "name") ∷ number (decimal link.name) ∷ [] = search rules in
    let owner : c.string_at-2.new.out.tokens ≡ c.number_at-2.new.out.tokens ++ key (codes "owner") ∷ string link.owner ∷ [] = search rules in
    let two = joined old _ _ _ _ (joined old _ _ _ _ begun instance) model in
    let four = joined old _ _ _ _ (joined old _ _ _ _ two name) owner in
    on_ok_weaker c.end_object.result (joined old _ _ _ _ four) c.end_object.ensures.ok
