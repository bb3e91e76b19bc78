use Rattle.std.proofs.Common.{◌≡◌, [], ◌∷◌, ◌++◌, codes, rules}
use Rattle.std.proofs.lemmas.Result.{on_ok_weaker}
use Rattle.json.specs.Token.{begin_object, key, string}
use Rattle.rp_json.proofs.ListLemmas.{joined}
use Rattle.rp_replies.proofs.replies.write_text_at.Goals as goal

pub returns-clause-ok : goal.returns-clause-ok
returns-clause-ok c =
    let old = c.args.out.now.tokens in
    let opened = begin_object ∷ key (codes "ok") ∷ begin_object ∷ [] in
    let filed = key c.args.key.now ∷ string c.args.text.now ∷ [] in
    let told : c.string_at.new.out.tokens ≡ c.open.new.out.tokens ++ filed = search rules in
    on_ok_weaker c.close.result (joined old _ _ _ _ (joined old opened _ filed _ c.in_ok-open.ensures.ok told)) c.close.ensures.ok
