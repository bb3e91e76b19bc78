use Rattle.std.proofs.Common.{◌≡◌, ◌++◌, map, drop}
use Rattle.std.specs.Prelude.{is_some}
use Rattle.p21_values.specs.Deciding.{only_candidate}
use Rattle.p21_values.proofs.deciding.verdicts.Given as goal

abbrev pub invariant-loop-group : goal.invariant-loop-group
invariant-loop-group l =
    l.found.items ++ map (λ g. is_some (only_candidate g l.taken)) (drop l.group-index l.groups) ≡ map (λ g. is_some (only_candidate g l.taken)) l.groups
