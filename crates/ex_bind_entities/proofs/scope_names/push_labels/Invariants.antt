use Rattle.std.proofs.Common.{◌≡◌, ◌++◌, map, drop}
use Rattle.ex_bind.specs.Rules.{labels}
use Rattle.ex_bind_entities.proofs.scope_names.push_labels.Given as goal

abbrev pub invariant-loop-rule : goal.invariant-loop-rule
invariant-loop-rule l = map (λ n. n.now) l.names.items ++ labels (λ r. r.label) (drop l.rule-index l.rules) ≡ map (λ n. n.now) l.initial.names.items ++ labels (λ r. r.label) l.rules
