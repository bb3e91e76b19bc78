use Rattle.std.proofs.Common.{◌≡◌, [], ◌∷◌, ◌++◌, rules}
use Rattle.std.proofs.lemmas.Result.{on_ok_weaker}
use Rattle.json.specs.Token.{begin_array}
use Rattle.rp_replies.specs.Replies.{instance_data}
use Rattle.rp_json.proofs.ListLemmas.{bracketed}
use Rattle.rp_replies.proofs.lists.write_places.Goals as goal

pub returns-clause-ok : goal.returns-clause-ok
returns-clause-ok c =
    let begun : c.begin_array.new.self.tokens ≡ c.args.out.now.tokens ++ begin_array ∷ [] = search rules in
    on_ok_weaker c.end_array.result (bracketed instance_data c.args.places.now c.loop-place.place-index _ _ _ _ begun c.loop-place.invariant.tokens c.loop-place-test.false) c.end_array.ensures.ok
