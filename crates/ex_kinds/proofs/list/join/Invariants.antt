use Rattle.std.proofs.Common.{◌≡◌, drop}
use Rattle.ex_kinds.specs.Kinds as spec
use Rattle.ex_kinds.proofs.list.join.Given as goal

abbrev pub invariant-loop-kind : goal.invariant-loop-kind
invariant-loop-kind l = spec.joined l.kinds (drop l.kind-index l.more) ≡ spec.joined l.initial.kinds l.more
