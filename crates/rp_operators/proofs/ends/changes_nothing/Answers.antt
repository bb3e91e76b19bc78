use Rattle.std.proofs.Common.{◌≡◌, true, sym, subst}
use Rattle.rp_operators.specs.Ends.{element_under}
use Rattle.rp_value.specs.declared.value.Value.{Value}
use Rattle.rp_operators.proofs.ends.changes_nothing.Goals as goal

pub returns-in-Named : goal.returns-in-Named
returns-in-Named c =
    subst (λ z. c.name_changes_nothing.result ≡ true → (x : Value) → element_under c.args.types.now z x ≡ x) (sym c.in-Named.is) c.name_changes_nothing.ensures
