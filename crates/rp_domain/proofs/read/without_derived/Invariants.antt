use Rattle.std.proofs.Common.{◌≡◌, ◌++◌, take, drop}
use Rattle.rp_domain.specs.Combinations.{without_derived}
use Rattle.rp_domain.proofs.read.without_derived.Given as goal

abbrev pub invariant-loop-at : goal.invariant-loop-at
invariant-loop-at l = take l.at l.values ++ without_derived (drop l.at l.derived) (drop l.at l.values) ≡ without_derived l.derived l.initial.values
