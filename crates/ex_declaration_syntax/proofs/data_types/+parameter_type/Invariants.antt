use Rattle.ex_declaration_syntax.proofs.data_types.+parameter_type.Given as goal

abbrev pub decreases-parameter_type : goal.decreases-parameter_type
decreases-parameter_type l = l.levels
