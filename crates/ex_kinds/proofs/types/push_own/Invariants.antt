use Rattle.std.proofs.Common.{◌≡◌, ◌++◌, drop}
use Rattle.ex_kinds.specs.Types as spec
use Rattle.ex_kinds.proofs.types.push_own.Given as goal

abbrev pub invariant-loop-kind : goal.invariant-loop-kind
invariant-loop-kind l = l.found ++ spec.own (drop l.kind-index l.kinds) ≡ l.initial.found ++ spec.own l.kinds
