use Rattle.std.proofs.Common.{ℕ, sym, subst}
use Rattle.std.specs.Prelude.{⊤, MatchOption}
use Rattle.ex_selects.specs.Kept.{kept_in, of_class, StandFor}
use Rattle.ex_selects.specs.Shared.{shared}
use Rattle.ex_selects.specs.Sorts.{all_sorts}
use Rattle.ex_selects.proofs.Firsts.{kept_stands}
use Rattle.ex_selects.proofs.types.DefinedTypes.kept.Goals as goal

pub returns : goal.returns
returns c =
    let types = c.self.inside.declared in
    let class = c.args.class in
    rw (← c.self.view_is) (kept_stands types class c.args.number c.unrenamed.result c.table_of.result.now c.kept_at.result c.unrenamed.ensures
    (subst (λ table. (m : ℕ) → MatchOption (kept_in table m) ⊤ (λ kept. StandFor (all_sorts types) (of_class (shared types) (all_sorts types) class m) kept))
    (sym c.table_of.ensures) (c.self.invariant.3 class).stand)
    c.kept_at.ensures)
