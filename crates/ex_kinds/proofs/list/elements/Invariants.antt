use Rattle.std.proofs.Common.{◌≡◌, drop}
use Rattle.std.specs.List.{filter_map}
use Rattle.ex_kinds.specs.Kinds as spec
use Rattle.ex_kinds.proofs.list.elements.Given as goal

abbrev pub invariant-loop-kind : goal.invariant-loop-kind
invariant-loop-kind l = spec.joined l.found (filter_map spec.shallower (drop l.kind-index l.kinds)) ≡ spec.elements l.kinds
