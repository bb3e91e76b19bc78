use Rattle.std.proofs.Common.{◌≡◌, ◌++◌, map, drop}
use Rattle.rp_compile_trees.specs.Parts as parts
use Rattle.rp_compile_trees.proofs.statement.+statements.Given as goal

abbrev pub invariant-block-loop-tree : goal.invariant-block-loop-tree
invariant-block-loop-tree l = l.found ++ parts.statements l.schema (map (λ t. t.now) l.types) l.scope (drop l.tree-index l.list) ≡ parts.statements l.schema (map (λ t. t.now) l.types) l.scope l.list

abbrev pub invariant-case_actions-loop-tree : goal.invariant-case_actions-loop-tree
invariant-case_actions-loop-tree l = l.found ++ parts.case_actions l.schema (map (λ t. t.now) l.types) l.scope (drop l.tree-index l.list) ≡ parts.case_actions l.schema (map (λ t. t.now) l.types) l.scope l.list
