use Rattle.std.proofs.Common.{◌≡◌, [], ◌∷◌, ◌++◌, codes, rules}
use Rattle.std.proofs.lemmas.Result.{on_ok_weaker}
use Rattle.json.specs.Token.{key, string}
use Rattle.rp_json.proofs.ListLemmas.{joined}
use Rattle.rp_snapshot_rows.proofs.writing.write_tail.Goals as goal

pub returns-clause-ok : goal.returns-clause-ok
returns-clause-ok c =
    let old = c.args.out.now.tokens in
    let name : c.string_at.new.out.tokens ≡ old ++ key (codes "name") ∷ string c.args.key.now.name ∷ [] = search rules in
    let owner : c.string_at-2.new.out.tokens ≡ c.string_at.new.out.tokens ++ key (codes "owner") ∷ string c.args.key.now.owner ∷ [] = search rules in
    let schema : c.string_at-3.new.out.tokens ≡ c.string_at-2.new.out.tokens ++ key (codes "schema") ∷ string c.args.schema.now ∷ [] = search rules in
    on_ok_weaker c.end_object.result (joined old _ _ _ _ (joined old _ _ _ _ (joined old _ _ _ _ name owner) schema)) c.end_object.ensures.ok
