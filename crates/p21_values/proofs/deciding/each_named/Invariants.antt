use Rattle.std.proofs.Common.{◌≡◌, ◌++◌, ◌&&◌, Some, map, drop}
use Rattle.ex_selects.specs.Seen.{seen_target}
use Rattle.p21_values.specs.Deciding.{may_name}
use Rattle.p21_values.proofs.deciding.each_named.Given as goal

abbrev pub invariant-loop-target : goal.invariant-loop-target
invariant-loop-target l =
    l.taken.items ++ map (λ t. l.fits && may_name l.types (Some l.number) (seen_target t)) (drop l.target-index l.targets)
    ≡ map (λ t. l.fits && may_name l.types (Some l.number) (seen_target t)) l.targets
