use Rattle.std.proofs.Common.{◌≡◌, [], ◌∷◌, ◌++◌, codes, rules}
use Rattle.std.proofs.lemmas.Result.{on_ok_weaker}
use Rattle.json.specs.Token.{begin_object, key, string}
use Rattle.rp_replies.specs.Replies.{level_word}
use Rattle.rp_json.proofs.ListLemmas.{joined}
use Rattle.rp_replies.proofs.lists.write_item.Goals as goal

pub returns-clause-ok : goal.returns-clause-ok
returns-clause-ok c =
    let old = c.args.out.now.tokens in
    let item = c.args.item.now in
    let begun : c.begin_object.new.self.tokens ≡ old ++ begin_object ∷ [] = search rules in
    let level : c.string_at.new.out.tokens ≡ c.begin_object.new.self.tokens ++ key (codes "level") ∷ string (level_word item.right) ∷ [] = search rules in
    let name : c.string_at-2.new.out.tokens ≡ c.string_at.new.out.tokens ++ key (codes "name") ∷ string item.name ∷ [] = search rules in
    let owner : c.string_at-3.new.out.tokens ≡ c.string_at-2.new.out.tokens ++ key (codes "owner") ∷ string item.owner ∷ [] = search rules in
    let schema : c.string_at-4.new.out.tokens ≡ c.string_at-3.new.out.tokens ++ key (codes "schema") ∷ string item.schema ∷ [] = search rules in
    let two = joined old _ _ _ _ (joined old _ _ _ _ begun level) name in
    let four = joined old _ _ _ _ (joined old _ _ _ _ two owner) schema in
    on_ok_weaker c.end_object.result (joined old _ _ _ _ four) c.end_object.ensures.ok
