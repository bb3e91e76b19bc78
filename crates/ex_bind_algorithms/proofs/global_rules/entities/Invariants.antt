use Rattle.std.proofs.Common.{◌≡◌, drop}
use Rattle.ex_named.specs.Outcomes.{each, each_after}
use Rattle.ex_named.specs.Scopes.{entity}
use Rattle.ex_bind_algorithms.proofs.global_rules.entities.Given as goal

abbrev pub invariant-loop-name : goal.invariant-loop-name
invariant-loop-name l = each_after (entity l.declarations) l.found (drop l.name-index l.names) ≡ each (entity l.declarations) l.names
