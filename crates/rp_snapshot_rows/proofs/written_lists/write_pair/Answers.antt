use Rattle.std.proofs.Common.{◌≡◌, [], ◌∷◌, ◌++◌, rules}
use Rattle.std.proofs.lemmas.Result.{on_ok_weaker}
use Rattle.json.specs.Token.{begin_array, string}
use Rattle.rp_json.proofs.ListLemmas.{joined}
use Rattle.rp_snapshot_rows.proofs.written_lists.write_pair.Goals as goal

pub returns-clause-ok : goal.returns-clause-ok
returns-clause-ok c =
    let old = c.args.out.now.tokens in
    let begun : c.begin_array.new.self.tokens ≡ old ++ begin_array ∷ [] = search rules in
    let first : c.string.new.self.tokens ≡ c.begin_array.new.self.tokens ++ string c.args.first.now ∷ [] = search rules in
    let second : c.string-2.new.self.tokens ≡ c.string.new.self.tokens ++ string c.args.second.now ∷ [] = search rules in
    on_ok_weaker c.end_array.result (joined old _ _ _ _ (joined old _ _ _ _ (joined old _ _ _ _ begun first) second)) c.end_array.ensures.ok
