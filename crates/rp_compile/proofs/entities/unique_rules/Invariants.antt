use Rattle.std.proofs.Common.{◌≡◌, drop, map, ◌++◌}
use Rattle.rp_meaning.specs.Compiled as compiled
use Rattle.rp_compile.proofs.entities.unique_rules.Given as goal

abbrev pub invariant-loop-rule : goal.invariant-loop-rule
invariant-loop-rule l = l.found ++ map (λ rule. map compiled.declaration rule.attributes) (drop l.rule-index l.list) ≡ map (λ rule. map compiled.declaration rule.attributes) l.list
