use Rattle.ex_statements.proofs.statement.+levels.Given as goal

abbrev pub decreases-statement : goal.decreases-statement
decreases-statement l = l.levels
