use Rattle.std.proofs.Common.{◌≡◌, map, take}
use Rattle.ex_kinds.specs.Types as spec
use Rattle.ex_kinds.proofs.meeting.declared_with_elements.Given as goal

abbrev pub invariant-loop-kinds : goal.invariant-loop-kinds
invariant-loop-kinds l = l.found.items ≡ map (spec.declares spec.has_elements) (take l.kinds-index l.types)
