use Rattle.std.proofs.Common.{◌≡◌, ◌++◌, map, drop}
use Rattle.ex_kinds.specs.Types as spec
use Rattle.ex_kinds.proofs.meeting.of_sorts.Given as goal

abbrev pub invariant-loop-sort : goal.invariant-loop-sort
invariant-loop-sort l =
    l.found.items ++ map (λ sort. spec.meeting l.types (spec.is_value sort)) (drop l.sort-index l.sorts) ≡ map (λ sort. spec.meeting l.types (spec.is_value sort)) l.sorts
