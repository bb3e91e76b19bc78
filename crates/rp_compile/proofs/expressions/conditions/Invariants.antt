use Rattle.std.proofs.Common.{◌≡◌, drop, map, ◌++◌}
use Rattle.rp_meaning.specs.CompiledExpressions as expressions
use Rattle.rp_compile.proofs.expressions.conditions.Given as goal

abbrev pub invariant-loop-rule : goal.invariant-loop-rule
invariant-loop-rule l = l.found ++ map (λ x. expressions.expression l.schema l.scope x.condition) (drop l.rule-index l.rules) ≡ map (λ x. expressions.expression l.schema l.scope x.condition) l.rules
