use Rattle.std.proofs.Common.{ℕ, sym, subst}
use Rattle.ex_selects.specs.declared.sorts.Class.TheVariants as class
use Rattle.ex_selects.specs.Kept.{kept_in}
use Rattle.ex_selects.specs.Takers.{AreTakersAt, takers_in}
use Rattle.ex_selects.proofs.Firsts.{takers_known}
use Rattle.ex_selects.proofs.types.DefinedTypes.takers.Goals as goal

pub returns : goal.returns
returns c =
    let types = c.self.inside.declared in
    let kept = c.self.inside.kept.items.items in
    rw (← c.self.view_is) (takers_known types c.args.number c.unrenamed.result kept c.deref.result.now c.takers_at.result c.unrenamed.ensures
    (c.self.invariant.3 class.Items).stand
    (subst (λ table. (m : ℕ) → AreTakersAt types (kept_in kept m) (takers_in table m)) (sym c.deref.ensures.value) c.self.invariant.4)
    c.takers_at.ensures)
