use Rattle.std.proofs.Common.{◌≡◌, [], ◌∷◌, ◌++◌, rules}
use Rattle.std.proofs.lemmas.Result.{on_ok_weaker}
use Rattle.json.specs.Token.{begin_array}
use Rattle.rp_replies.specs.Replies.{warning_data}
use Rattle.rp_json.proofs.ListLemmas.{bracketed}
use Rattle.rp_replies.proofs.lists.write_warnings.Goals as goal

pub returns-clause-ok : goal.returns-clause-ok
returns-clause-ok c =
    let begun : c.begin_array.new.self.tokens ≡ c.args.out.now.tokens ++ begin_array ∷ [] = search rules in
    on_ok_weaker c.end_array.result (bracketed warning_data c.args.warnings.now c.loop-at.at-index _ _ _ _ begun c.loop-at.invariant.tokens c.loop-at-test.false) c.end_array.ensures.ok
