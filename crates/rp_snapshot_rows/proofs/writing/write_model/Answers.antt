use Rattle.std.proofs.Common.{◌≡◌, [], ◌∷◌, ◌++◌, codes, decimal, rules}
use Rattle.std.proofs.lemmas.Result.{on_ok_weaker}
use Rattle.json.specs.Token.{begin_object, key, string, number}
use Rattle.rp_json.specs.Written.{link_data, list_of}
use Rattle.rp_json.specs.Tokens.{tokens_of}
use Rattle.rp_json.proofs.ListLemmas.{joined}
use Rattle.rp_snapshot_rows.specs.Written.{grant_data}
use Rattle.rp_snapshot_rows.proofs.writing.write_model.Goals as goal

pub returns-clause-ok : goal.returns-clause-ok
returns-clause-ok c =
    let old = c.args.out.now.tokens in
    let model = c.args.model.now in
    let begun : c.begin_object.new.self.tokens ≡ old ++ begin_object ∷ [] = search rules in
    let file : c.string_at.new.out.tokens ≡ c.begin_object.new.self.tokens ++ key (codes "file") ∷ string c.args.file.now ∷ [] = search rules in
    let granted : c.key.new.self.tokens ≡ c.string_at.new.out.tokens ++ key (codes "grants") ∷ [] = search rules in
    let grants : c.write_grants.new.out.tokens ≡ c.key.new.self.tokens ++ tokens_of (list_of grant_data c.args.grants.now) = search rules in
    let greatest : c.number_at.new.out.tokens ≡ c.write_grants.new.out.tokens ++ key (codes "greatest") ∷ number (decimal model.greatest) ∷ [] = search rules in
    let linked : c.key-2.new.self.tokens ≡ c.number_at.new.out.tokens ++ key (codes "links") ∷ [] = search rules in
    let links : c.write_links.new.out.tokens ≡ c.key-2.new.self.tokens ++ tokens_of (list_of link_data model.content.links) = search rules in
    on_ok_weaker c.write_tail.result
    (λ ends.
    let from_links = joined c.number_at.new.out.tokens _ _ _ _ linked (joined c.key-2.new.self.tokens _ _ _ _ links ends) in
    let from_grants = joined c.key.new.self.tokens _ _ _ _ grants (joined c.write_grants.new.out.tokens _ _ _ _ greatest from_links) in
    let from_file = joined c.begin_object.new.self.tokens _ _ _ _ file (joined c.string_at.new.out.tokens _ _ _ _ granted from_grants) in
    joined old _ _ _ _ begun from_file)
    c.write_tail.ensures.ok
