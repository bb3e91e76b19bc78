use Rattle.std.proofs.Common.{◌≡◌, [], ◌∷◌, ◌++◌, codes, rules}
use Rattle.std.proofs.lemmas.Result.{on_ok_weaker}
use Rattle.std.specs.Fmt.{decimal}
use Rattle.json.specs.Token.{begin_object, key, string, number}
use Rattle.rp_replies.specs.Replies.{file_kind}
use Rattle.rp_json.proofs.ListLemmas.{joined}
use Rattle.rp_replies.proofs.refusals.write_file_fault.Goals as goal

pub returns-clause-ok : goal.returns-clause-ok
returns-clause-ok c =
    let old = c.args.out.now.tokens in
    let fault = c.args.fault in
    let begun : c.begin_object.new.self.tokens ≡ old ++ begin_object ∷ [] = search rules in
    let at : c.number_at.new.out.tokens ≡ c.begin_object.new.self.tokens ++ key (codes "at") ∷ number (decimal fault.at) ∷ [] = search rules in
    let code : c.number_at-2.new.out.tokens ≡ c.number_at.new.out.tokens ++ key (codes "code") ∷ number (decimal 11) ∷ [] = search rules in
    let kind : c.string_at.new.out.tokens ≡ c.number_at-2.new.out.tokens ++ key (codes "kind") ∷ string (file_kind fault.kind) ∷ [] = search rules in
    let name : c.string_at-2.new.out.tokens ≡ c.string_at.new.out.tokens ++ key (codes "name") ∷ string (codes "FileFault") ∷ [] = search rules in
    let two = joined old _ _ _ _ (joined old _ _ _ _ begun at) code in
    let four = joined old _ _ _ _ (joined old _ _ _ _ two kind) name in
    on_ok_weaker c.end_object.result (joined old _ _ _ _ four) c.end_object.ensures.ok
