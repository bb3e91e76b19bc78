use Rattle.ex_declaration_syntax.proofs.data_types.+base_type.Given as goal

abbrev pub decreases-base_type : goal.decreases-base_type
decreases-base_type l = l.levels
