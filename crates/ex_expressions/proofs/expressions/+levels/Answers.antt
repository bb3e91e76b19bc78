use Rattle.std.proofs.Common.{sym, subst}
use Rattle.text_forms.specs.Reads.{Reads}
use Rattle.ex_expressions.proofs.Levels.{level-is}
use Rattle.ex_expressions.proofs.expressions.+levels.Goals as goal

pub expression-returns-clause-reads : goal.expression-returns-clause-reads
expression-returns-clause-reads t c =
    subst (λ x. Reads (x.expression c.args.cursor.now) c.expression.result c.expression.new.cursor) (sym (level-is c.args.levels)) c.expression.ensures.reads

pub simple_expression-returns-clause-reads : goal.simple_expression-returns-clause-reads
simple_expression-returns-clause-reads t c =
    subst (λ x. Reads (x.simple_expression c.args.cursor.now) c.simple_expression.result c.simple_expression.new.cursor) (sym (level-is c.args.levels)) c.simple_expression.ensures.reads
