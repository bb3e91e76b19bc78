use Rattle.std.proofs.Common.{[], ◌∷◌, codes}
use Rattle.std.proofs.lemmas.Result.{on_ok_weaker}
use Rattle.std.specs.Fmt.{decimal}
use Rattle.json.specs.Token.{begin_object, key, number}
use Rattle.rp_json.proofs.ListLemmas.{joined}
use Rattle.rp_replies.proofs.replies.write_number_at.Goals as goal

pub returns-clause-ok : goal.returns-clause-ok
returns-clause-ok c =
    let old = c.args.out.now.tokens in
    let opened = begin_object ∷ key (codes "ok") ∷ begin_object ∷ [] in
    let told = key c.args.key.now ∷ number (decimal c.args.number) ∷ [] in
    on_ok_weaker c.close.result (joined old _ _ _ _ (joined old opened _ told _ c.in_ok-open.ensures.ok c.in_ok-number_at.ensures.ok)) c.close.ensures.ok
