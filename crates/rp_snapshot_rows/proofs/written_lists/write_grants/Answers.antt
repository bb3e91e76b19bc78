use Rattle.std.proofs.Common.{◌≡◌, [], ◌∷◌, ◌++◌, rules}
use Rattle.std.proofs.lemmas.Result.{on_ok_weaker}
use Rattle.json.specs.Token.{begin_array}
use Rattle.rp_snapshot_rows.specs.Written.{grant_data}
use Rattle.rp_json.proofs.ListLemmas.{bracketed}
use Rattle.rp_snapshot_rows.proofs.written_lists.write_grants.Goals as goal

pub returns-clause-ok : goal.returns-clause-ok
returns-clause-ok c =
    let begun : c.begin_array.new.self.tokens ≡ c.args.out.now.tokens ++ begin_array ∷ [] = search rules in
    on_ok_weaker c.end_array.result (bracketed grant_data c.args.grants.now c.loop-grant.grant-index _ _ _ _ begun c.loop-grant.invariant.tokens c.loop-grant-test.false) c.end_array.ensures.ok
