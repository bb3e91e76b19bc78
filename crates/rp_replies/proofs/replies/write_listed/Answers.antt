use Rattle.std.proofs.Common.{[], ◌∷◌, ◌++◌, codes, ap, ◌∙◌}
use Rattle.std.proofs.lemmas.Result.{on_ok_weaker}
use Rattle.json.specs.Token.{begin_object, end_object, key}
use Rattle.rp_json.specs.Written.{list_of}
use Rattle.rp_json.specs.Tokens.{tokens_of}
use Rattle.rp_json.proofs.ListLemmas.{joined}
use Rattle.rp_replies.specs.Replies.{item_data}
use Rattle.rp_replies.proofs.ListLemmas.{two_lists}
use Rattle.rp_replies.proofs.replies.write_listed.Goals as goal

pub returns-clause-ok : goal.returns-clause-ok
returns-clause-ok c =
    let old = c.args.out.now.tokens in
    let groups = tokens_of (list_of item_data c.args.groups.now) in
    let models = tokens_of (list_of item_data c.args.models.now) in
    let opened = begin_object ∷ key (codes "ok") ∷ begin_object ∷ [] in
    let one = joined old opened _ (key (codes "groups") ∷ groups) _ c.in_ok-open.ensures.ok c.in_ok-write_items_at.ensures.ok in
    let two = joined old _ _ (key (codes "models") ∷ models) _ one c.in_ok-write_items_at-2.ensures.ok in
    let front = begin_object ∷ key (codes "ok") ∷ begin_object ∷ key (codes "groups") ∷ [] in
    on_ok_weaker c.close.result (λ e. joined old _ _ _ _ two e ∙ ap (λ ts. old ++ (front ++ ts)) (two_lists groups models (key (codes "models")) end_object)) c.close.ensures.ok
