use Rattle.std.proofs.Common.{◌≡◌, drop, map, ◌++◌}
use Rattle.rp_compile_names.proofs.names.rule_names.Given as goal

abbrev pub invariant-loop-rule : goal.invariant-loop-rule
invariant-loop-rule l = map (λ n. n.now) l.names.items ++ map (λ t. t.name.text) (drop l.rule-index l.rules) ≡ map (λ t. t.name.text) l.rules
