use Rattle.std.proofs.Common.{◌≡◌, [], ◌∷◌, ◌++◌, codes, rules}
use Rattle.std.proofs.lemmas.Result.{on_ok_weaker}
use Rattle.json.specs.Token.{begin_object, key, boolean, string}
use Rattle.rp_json.proofs.ListLemmas.{joined}
use Rattle.rp_replies.proofs.lists.write_member.Goals as goal

pub returns-clause-ok : goal.returns-clause-ok
returns-clause-ok c =
    let old = c.args.out.now.tokens in
    let member = c.args.member.now in
    let begun : c.begin_object.new.self.tokens ≡ old ++ begin_object ∷ [] = search rules in
    let counts : c.boolean_at.new.out.tokens ≡ c.begin_object.new.self.tokens ++ key (codes "counts") ∷ boolean member.counts ∷ [] = search rules in
    let model : c.string_at.new.out.tokens ≡ c.boolean_at.new.out.tokens ++ key (codes "model") ∷ string member.model.name ∷ [] = search rules in
    let owner : c.string_at-2.new.out.tokens ≡ c.string_at.new.out.tokens ++ key (codes "owner") ∷ string member.model.owner ∷ [] = search rules in
    let two = joined old _ _ _ _ (joined old _ _ _ _ begun counts) model in
    on_ok_weaker c.end_object.result (joined old _ _ _ _ (joined old _ _ _ _ two owner)) c.end_object.ensures.ok
