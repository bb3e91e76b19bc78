use Rattle.std.proofs.Common.{subst, sym, ◌∙◌}
use Rattle.rp_rows.specs.declared.rows.ModelContent.{ModelContent}
use Rattle.rp_index.specs.Index.{Covers, IsIndexOf, AreKindsOf}
use Rattle.rp_index.proofs.indexed.Indexed.kinds.Goals as goal

pub returns-in-Some : goal.returns-in-Some
returns-in-Some c =
    let inside = c.self.inside in
    let covers : Covers c.in-Some.index inside.held.value.model.content.instances inside.held.value.model.content.links = subst (IsIndexOf inside.held.value.model.content) ((λ i. (sym c.deref.ensures i).index) ∙ c.in-Some.is) c.self.invariant in
    subst (λ (m : ModelContent). AreKindsOf m.content.instances c.kinds.result.now) c.self.view_is (c.kinds.ensures inside.held.value.model.content.instances inside.held.value.model.content.links covers)
