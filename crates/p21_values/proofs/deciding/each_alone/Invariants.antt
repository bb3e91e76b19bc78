use Rattle.std.proofs.Common.{◌≡◌, ◌++◌, map, drop}
use Rattle.ex_selects.specs.Seen.{seen_target}
use Rattle.p21_values.specs.Deciding.{takes_alone}
use Rattle.p21_values.proofs.deciding.each_alone.Given as goal

abbrev pub invariant-loop-target : goal.invariant-loop-target
invariant-loop-target l =
    l.taken.items ++ map (λ t. takes_alone l.types l.value (seen_target t)) (drop l.target-index l.targets)
    ≡ map (λ t. takes_alone l.types l.value (seen_target t)) l.targets
