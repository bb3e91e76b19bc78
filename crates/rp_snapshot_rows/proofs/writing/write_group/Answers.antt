use Rattle.std.proofs.Common.{◌≡◌, [], ◌∷◌, ◌++◌, codes, rules}
use Rattle.std.proofs.lemmas.Result.{on_ok_weaker}
use Rattle.json.specs.Token.{begin_object, key}
use Rattle.rp_json.specs.Written.{list_of}
use Rattle.rp_json.specs.Tokens.{tokens_of}
use Rattle.rp_json.proofs.ListLemmas.{joined}
use Rattle.rp_snapshot_rows.specs.Written.{reader_data, member_data}
use Rattle.rp_snapshot_rows.proofs.writing.write_group.Goals as goal

pub returns-clause-ok : goal.returns-clause-ok
returns-clause-ok c =
    let old = c.args.out.now.tokens in
    let group = c.args.group.now in
    let begun : c.begin_object.new.self.tokens ≡ old ++ begin_object ∷ [] = search rules in
    let granted : c.key.new.self.tokens ≡ c.begin_object.new.self.tokens ++ key (codes "grants") ∷ [] = search rules in
    let grants : c.write_group_grants.new.out.tokens ≡ c.key.new.self.tokens ++ tokens_of (list_of reader_data c.args.grants.now) = search rules in
    let listed : c.key-2.new.self.tokens ≡ c.write_group_grants.new.out.tokens ++ key (codes "members") ∷ [] = search rules in
    let members : c.write_members.new.out.tokens ≡ c.key-2.new.self.tokens ++ tokens_of (list_of member_data group.members) = search rules in
    on_ok_weaker c.write_tail.result
    (λ ends.
    let from_members = joined c.key-2.new.self.tokens _ _ _ _ members ends in
    let from_grants = joined c.key.new.self.tokens _ _ _ _ grants (joined c.write_group_grants.new.out.tokens _ _ _ _ listed from_members) in
    joined old _ _ _ _ begun (joined c.begin_object.new.self.tokens _ _ _ _ granted from_grants))
    c.write_tail.ensures.ok
