use Rattle.std.proofs.Common.{◌≡◌, true, sym, ◌∙◌, subst, ap, refl}
use Rattle.std.specs.Prelude.{IfOk}
use Rattle.ex_named.specs.declared.expression.NamedDataType.TheVariants as d
use Rattle.rp_meaning.specs.Types.{is_of_simple}
use Rattle.rp_operators.specs.Sights.{opened}
use Rattle.rp_operators.proofs.Staying.{kept-Simple, simple_known, refused-Simple}
use Rattle.rp_operators.proofs.declared.given_simple.Goals as goal

pub returns-then-is_of_simple : goal.returns-then-is_of_simple
returns-then-is_of_simple c = λ types.
    let simple = c.args.simple in
    let x = opened c.beneath_names.result in
    let holds : is_of_simple simple x ≡ true = sym c.is_of_simple.ensures ∙ c.if-is_of_simple.true in
    subst (λ y. IfOk c.copy.result (λ a. a ≡ y))
    (sym (kept-Simple types c.args.value.now x c.beneath_names.ensures.value (simple_known types simple x holds) (d.Simple simple) simple refl holds))
    c.copy.ensures

pub returns : goal.returns
returns c = λ types.
    sym (refused-Simple types c.args.simple c.args.value.now (ap (is_of_simple c.args.simple) (sym c.beneath_names.ensures.value) ∙ sym c.is_of_simple.ensures ∙ c.if-is_of_simple.false))
