use Rattle.ex_expressions.proofs.expressions.+levels.Given as goal

abbrev pub decreases-expression : goal.decreases-expression
decreases-expression l = l.levels

abbrev pub decreases-simple_expression : goal.decreases-simple_expression
decreases-simple_expression l = l.levels
