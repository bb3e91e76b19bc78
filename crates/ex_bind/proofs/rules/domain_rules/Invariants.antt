use Rattle.std.proofs.Common.{◌≡◌, drop}
use Rattle.ex_named.specs.Outcomes.{each, each_after}
use Rattle.ex_bind.specs.Rules.{domain_rule}
use Rattle.ex_bind.proofs.rules.domain_rules.Given as goal

abbrev pub invariant-loop-rule : goal.invariant-loop-rule
invariant-loop-rule l = each_after (domain_rule l.declarations l.scope) l.found (drop l.rule-index l.rules) ≡ each (domain_rule l.declarations l.scope) l.rules
