use Rattle.std.proofs.Common.{◌≡◌, [], ◌∷◌, ◌++◌, codes, ap, sym, ◌∙◌, append_assoc, rules}
use Rattle.std.proofs.lemmas.Result.{on_ok_weaker}
use Rattle.json.specs.Token.{begin_object, end_object, key, string}
use Rattle.rp_json.specs.Written.{list_of, link_data}
use Rattle.rp_json.specs.Tokens.{tokens_of}
use Rattle.rp_json.proofs.ListLemmas.{joined}
use Rattle.rp_replies.proofs.replies.write_linked.Goals as goal

pub returns-clause-ok : goal.returns-clause-ok
returns-clause-ok c =
    let old = c.args.out.now.tokens in
    let file = c.args.file.now in
    let list = tokens_of (list_of link_data c.args.links.now) in
    let opened = begin_object ∷ key (codes "ok") ∷ begin_object ∷ [] in
    let named : c.string_at.new.out.tokens ≡ c.open.new.out.tokens ++ key (codes "file") ∷ string file ∷ [] = search rules in
    let linked : c.key.new.self.tokens ≡ c.string_at.new.out.tokens ++ key (codes "links") ∷ [] = search rules in
    let front = begin_object ∷ key (codes "ok") ∷ begin_object ∷ key (codes "file") ∷ string file ∷ key (codes "links") ∷ [] in
    let listed = joined old front _ list _ (joined old _ _ _ _ (joined old opened _ _ _ c.in_ok-open.ensures.ok named) linked) c.in_ok-write_links.ensures.ok in
    let ends = sym (append_assoc list (end_object ∷ []) (end_object ∷ [])) in
    on_ok_weaker c.close.result (λ e. joined old _ _ _ _ listed e ∙ ap (λ ts. old ++ (front ++ ts)) ends) c.close.ensures.ok
