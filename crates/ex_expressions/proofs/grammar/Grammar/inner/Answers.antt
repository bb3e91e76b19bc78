use Rattle.ex_expressions.proofs.grammar.Grammar.inner.Goals as goal

pub expression-requires : goal.expression-requires
expression-requires g c = c.requires.nests.expressions.callable _ _ c.requires.deeper

pub returns-clause-reads : goal.returns-clause-reads
returns-clause-reads g c = c.requires.nests.expressions.reads _ _ _ _ c.requires.deeper c.expression.ensures

pub returns-clause-takes : goal.returns-clause-takes
returns-clause-takes g c = c.requires.nests.expressions.takes _ _ _ _ c.requires.deeper c.expression.ensures
