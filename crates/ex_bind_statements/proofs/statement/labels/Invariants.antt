use Rattle.std.proofs.Common.{◌≡◌, drop}
use Rattle.ex_named.specs.Expressions.{expression}
use Rattle.ex_named.specs.Outcomes.{each, each_after}
use Rattle.ex_bind_statements.proofs.statement.labels.Given as goal

abbrev pub invariant-loop-label : goal.invariant-loop-label
invariant-loop-label l = each_after (expression l.declarations l.scope) l.found (drop l.label-index l.labels) ≡ each (expression l.declarations l.scope) l.labels
