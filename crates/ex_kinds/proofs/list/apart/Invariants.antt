use Rattle.std.proofs.Common.{◌≡◌, ◌++◌, drop}
use Rattle.ex_kinds.specs.Kinds as spec
use Rattle.ex_kinds.proofs.list.apart.Given as goal

abbrev pub invariant-loop-kind : goal.invariant-loop-kind
invariant-loop-kind l = l.found ++ spec.apart (drop l.kind-index l.kinds) ≡ spec.apart l.kinds
