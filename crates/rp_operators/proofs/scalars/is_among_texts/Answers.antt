use Rattle.std.proofs.Common.{rules, sym, ◌∙◌}
use Rattle.rp_operators.proofs.Members.{here, behind}
use Rattle.rp_operators.proofs.scalars.is_among_texts.Goals as goal

pub returns-in-Str : goal.returns-in-Str
returns-in-Str c = λ x is.
    here x c.args.text.now is c.args.values.now c.loop-value.value-index c.value-item.result c.in-Str.other (search rules) (search rules) c.in-Str.is (sym c.are_equal.ensures ∙ c.if-are_equal.true)
    ∙ c.loop-value.invariant x is

pub loop-value-preserved : goal.loop-value-preserved
loop-value-preserved c = λ x is.
    behind x c.args.text.now is c.args.values.now c.loop-value.value-index c.value-item.result c.in-Str.other (search rules) (search rules) c.in-Str.is (sym c.are_equal.ensures ∙ c.if-are_equal.false)
    ∙ c.loop-value.invariant x is
