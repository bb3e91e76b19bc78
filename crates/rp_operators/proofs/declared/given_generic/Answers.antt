use Rattle.std.proofs.Common.{◌≡◌, refl, sym, ◌∙◌, subst}
use Rattle.std.specs.Prelude.{IfOk}
use Rattle.ex_named.specs.declared.expression.NamedDataType.TheVariants as d
use Rattle.rp_meaning.specs.Bare.{bare}
use Rattle.rp_operators.proofs.Staying.{kept-Generic, unset}
use Rattle.rp_operators.proofs.declared.given_generic.Goals as goal
use Rattle.rp_value.specs.declared.value.Value.{out-Value}

pub returns-then-is_indeterminate : goal.returns-then-is_indeterminate
returns-then-is_indeterminate c = λ types. sym (unset types d.Generic c.args.value.now (sym c.is_indeterminate.ensures ∙ c.if-is_indeterminate.true))

pub returns : goal.returns
returns c = λ types.
    subst (λ y. IfOk c.copy.result (λ a. a ≡ y))
    (sym (kept-Generic types c.args.value.now (out-Value (bare c.args.value.now)) refl (sym c.is_indeterminate.ensures ∙ c.if-is_indeterminate.false)))
    c.copy.ensures
