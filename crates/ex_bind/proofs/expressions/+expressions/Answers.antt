use Rattle.std.proofs.Common.{◌<◌, length, sym, ◌∙◌, arith}
use Rattle.std.proofs.lemmas.Bool.Decides.{nat_tests}
use Rattle.ex_named.specs.Expressions as spec
use Rattle.ex_bind.specs.Trees as trees
use Rattle.ex_bind.proofs.Items.{of_item}
use Rattle.ex_bind.proofs.expressions.+expressions.Goals as goal

pub qualified-returns-in-Some-transpose : goal.qualified-returns-in-Some-transpose
qualified-returns-in-Some-transpose t c =
    let schema = c.args.declarations.now in
    let s = c.args.scope.now in
    let others = c.in-Some.others.now in
    let more : 0 < length others = grind (arith, nat_tests) in
    rw (c.in-Some.ensures.cases.0)
    (of_item schema s (spec.bound_expression schema c.args.base.now) (trees.bound_qualifier schema c.in-Some.first.now) others more
    c.item.result c.in-Some-transpose.item (sym c.transpose.ensures ∙ c.in-Some-transpose.is)
    (trees.item schema s c.args.base.now c.in-Some.first.now) c.item.ensures
    c.taken_of.result (λ b binds. c.taken_of.ensures b (trees.qualifiers schema s others) binds c.qualifiers-others.ensures))
