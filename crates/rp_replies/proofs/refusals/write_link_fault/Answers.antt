use Rattle.std.proofs.Common.{◌≡◌, [], ◌∷◌, ◌++◌, codes, rules}
use Rattle.std.proofs.lemmas.Result.{on_ok_weaker}
use Rattle.std.specs.Fmt.{decimal}
use Rattle.json.specs.Token.{begin_object, key, string, number}
use Rattle.rp_replies.specs.Replies.{link_kind}
use Rattle.rp_json.proofs.ListLemmas.{joined}
use Rattle.rp_replies.proofs.refusals.write_link_fault.Goals as goal

pub returns-clause-ok : goal.returns-clause-ok
returns-clause-ok c =
    let old = c.args.out.now.tokens in
    let fault = c.args.fault in
    let begun : c.begin_object.new.self.tokens ≡ old ++ begin_object ∷ [] = search rules in
    let code : c.number_at.new.out.tokens ≡ c.begin_object.new.self.tokens ++ key (codes "code") ∷ number (decimal 13) ∷ [] = search rules in
    let kind : c.string_at.new.out.tokens ≡ c.number_at.new.out.tokens ++ key (codes "kind") ∷ string (link_kind fault.kind) ∷ [] = search rules in
    let link : c.number_at-2.new.out.tokens ≡ c.string_at.new.out.tokens ++ key (codes "link") ∷ number (decimal fault.link) ∷ [] = search rules in
    let two = joined old _ _ _ _ (joined old _ _ _ _ begun code) kind in
    let four = joined old _ _ _ _ (joined old _ _ _ _ two link) c.in_ok-string_at-2.ensures.ok in
    on_ok_weaker c.end_object.result (joined old _ _ _ _ four) c.end_object.ensures.ok
