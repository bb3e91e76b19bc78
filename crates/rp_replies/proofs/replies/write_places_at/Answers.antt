use Rattle.std.proofs.Common.{◌≡◌, [], ◌∷◌, ◌++◌, codes, ap, sym, ◌∙◌, append_assoc, rules}
use Rattle.std.proofs.lemmas.Result.{on_ok_weaker}
use Rattle.json.specs.Token.{begin_object, end_object, key}
use Rattle.rp_json.specs.Written.{list_of}
use Rattle.rp_json.specs.Tokens.{tokens_of}
use Rattle.rp_json.proofs.ListLemmas.{joined}
use Rattle.rp_replies.specs.Replies.{instance_data}
use Rattle.rp_replies.proofs.replies.write_places_at.Goals as goal

pub returns-clause-ok : goal.returns-clause-ok
returns-clause-ok c =
    let old = c.args.out.now.tokens in
    let list = tokens_of (list_of instance_data c.args.places.now) in
    let opened = begin_object ∷ key (codes "ok") ∷ begin_object ∷ [] in
    let named : c.key.new.self.tokens ≡ c.open.new.out.tokens ++ key c.args.key.now ∷ [] = search rules in
    let front = begin_object ∷ key (codes "ok") ∷ begin_object ∷ key c.args.key.now ∷ [] in
    let listed = joined old front _ list _ (joined old opened _ _ _ c.in_ok-open.ensures.ok named) c.in_ok-write_places.ensures.ok in
    let ends = sym (append_assoc list (end_object ∷ []) (end_object ∷ [])) in
    on_ok_weaker c.close.result (λ e. joined old _ _ _ _ listed e ∙ ap (λ ts. old ++ (front ++ ts)) ends) c.close.ensures.ok
