use Rattle.std.proofs.Common.{◌≡◌, filter, drop}
use Rattle.p21_values.specs.Deciding.{at, only_candidate}
use Rattle.p21_values.proofs.Decided.{single_after}
use Rattle.p21_values.proofs.candidates.only_candidate.Given as goal

abbrev pub invariant-loop-candidate : goal.invariant-loop-candidate
invariant-loop-candidate l =
    single_after l.found (filter (λ c. at l.taken c.place) (drop l.candidate-index l.group)) ≡ only_candidate l.group l.taken
