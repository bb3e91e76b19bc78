use Rattle.std.proofs.Common.{◌≡◌, List, IfOk, subst}
use Rattle.std.proofs.lemmas.Simd.{map-map}
use Rattle.rp_meaning.specs.CompiledExpressions.{CompiledExpression, compiled_expression}
use Rattle.rp_code.specs.declared.tree.Expression.{Expression}
use Rattle.rp_compile_trees.proofs.statement.labels.Goals as goal

pub returns : goal.returns
returns c = subst (λ (all : List Expression). IfOk c.expressions.result (λ found. found ≡ all))
    (map-map (λ (x : CompiledExpression). x.tree c.args.scope.now) (compiled_expression c.args.schema.now) c.args.list.now) c.expressions.ensures
