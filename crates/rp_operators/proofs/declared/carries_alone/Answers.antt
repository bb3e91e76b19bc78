use Rattle.std.proofs.Common.{sym, ◌∙◌, ap, arith}
use Rattle.rp_meaning.specs.Bare.{carried}
use Rattle.rp_operators.proofs.Sights.{named-alone, unless_some}
use Rattle.rp_operators.proofs.declared.carries_alone.Goals as goal

pub returns-then-defined_type-number : goal.returns-then-defined_type-number
returns-then-defined_type-number c = λ none.
    named-alone c.args.value.now c.in-Named.defined_type c.args.number c.in-Named.inner c.in-Named.is (omega (arith, c.if-defined_type-number.true))
    (ap carried (sym c.get.ensures) ∙ sym c.carried.ensures ∙ unless_some c.carried.result c.is_none.result c.is_none.ensures none)
