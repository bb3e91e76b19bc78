use Rattle.ex_declaration_syntax.proofs.supertypes.+supertype_expression.Given as goal

abbrev pub decreases-supertype_expression : goal.decreases-supertype_expression
decreases-supertype_expression l = l.levels
