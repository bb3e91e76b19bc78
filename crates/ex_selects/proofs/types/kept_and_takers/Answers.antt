use Rattle.std.proofs.Common.{sym, ◌∙◌, subst}
use Rattle.ex_selects.specs.declared.sorts.Class.TheVariants as class
use Rattle.ex_selects.specs.Kept.{IsKept, IsTable}
use Rattle.ex_selects.specs.Shared.{shared}
use Rattle.ex_selects.specs.Sorts.{all_sorts}
use Rattle.ex_selects.specs.Takers.{AreAllTakers}
use Rattle.ex_selects.proofs.types.kept_and_takers.Goals as goal

pub all_takers-requires : goal.all_takers-requires
all_takers-requires c =
    let types = c.args.types.now in
    let kept : IsKept (shared types) (all_sorts types) c.in_ok-kept.kept =
    subst (λ g. IsKept g (all_sorts types) c.in_ok-kept.kept) c.requires
    (subst (λ s. IsKept c.args.graph.now s c.in_ok-kept.kept) (c.deref.ensures.value ∙ c.in_ok-sorts.ensures) c.in_ok-kept.ensures) in
    subst (IsTable (shared types) (all_sorts types) class.Items) (sym c.deref-2.ensures.value) (kept class.Items)

pub returns-clause-kept : goal.returns-clause-kept
returns-clause-kept c =
    let types = c.args.types.now in
    subst (λ g. IsKept g (all_sorts types) c.in_ok-kept.kept) c.requires
    (subst (λ s. IsKept c.args.graph.now s c.in_ok-kept.kept) (c.deref.ensures.value ∙ c.in_ok-sorts.ensures) c.in_ok-kept.ensures)

pub returns-clause-takers : goal.returns-clause-takers
returns-clause-takers c = subst (λ table. AreAllTakers c.args.types.now table c.in_ok-takers.takers.items) c.deref-2.ensures.value c.in_ok-takers.ensures
