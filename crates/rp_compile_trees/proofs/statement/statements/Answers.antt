use Rattle.std.proofs.Common.{◌≡◌, List, map, IfOk, subst}
use Rattle.std.proofs.lemmas.Simd.{map-map}
use Rattle.rp_meaning.specs.CompiledExpressions.{expression}
use Rattle.rp_meaning.specs.CompiledStatements.{CompiledStatement, compiled_statement}
use Rattle.rp_code.specs.declared.tree.Statement.{Statement}
use Rattle.rp_compile_trees.proofs.statement.statements.Goals as goal

pub returns : goal.returns
returns c = subst (λ (all : List Statement). IfOk c.block.result (λ found. found ≡ all))
    (map-map (λ (x : CompiledStatement). x c.args.scope.now) (compiled_statement (expression c.args.schema.now) (map (λ t. t.now) c.args.types.now)) c.args.list.now) c.block.ensures
