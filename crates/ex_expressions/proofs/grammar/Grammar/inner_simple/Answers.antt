use Rattle.ex_expressions.proofs.grammar.Grammar.inner_simple.Goals as goal

pub simple_expression-requires : goal.simple_expression-requires
simple_expression-requires g c = c.requires.nests.simple_expressions.callable _ _ c.requires.deeper

pub returns-clause-reads : goal.returns-clause-reads
returns-clause-reads g c = c.requires.nests.simple_expressions.reads _ _ _ _ c.requires.deeper c.simple_expression.ensures

pub returns-clause-takes : goal.returns-clause-takes
returns-clause-takes g c = c.requires.nests.simple_expressions.takes _ _ _ _ c.requires.deeper c.simple_expression.ensures
