use Rattle.std.proofs.Common.{subst, sym, ◌∙◌}
use Rattle.std.proofs.lemmas.Option.{IfSome_then}
use Rattle.std.proofs.lemmas.Result.{IfOk-weaker}
use Rattle.rp_rows.specs.declared.rows.ModelContent.{ModelContent}
use Rattle.rp_index.specs.Index.{Covers, IsIndexOf, AreUsersAmong}
use Rattle.rp_index.proofs.indexed.Indexed.users_among.Goals as goal

pub returns-in-Some : goal.returns-in-Some
returns-in-Some c =
    let inside = c.self.inside in
    let covers : Covers c.in-Some.index inside.held.value.model.content.instances inside.held.value.model.content.links = subst (IsIndexOf inside.held.value.model.content) ((λ i. (sym c.deref.ensures i).index) ∙ c.in-Some.is) c.self.invariant in
    IfOk-weaker c.users_of.result _ _
    (λ found h. IfSome_then found h (λ users e. subst (λ (m : ModelContent). AreUsersAmong c.args.names.now.keys users.keys m.content.instances) c.self.view_is (e inside.held.value.model.content.instances inside.held.value.model.content.links covers)))
    c.users_of.ensures
