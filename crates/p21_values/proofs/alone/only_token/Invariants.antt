use Rattle.std.proofs.Common.{◌≡◌, drop}
use Rattle.std.specs.List.{filter_map}
use Rattle.p21_values.specs.Taking as spec
use Rattle.p21_values.specs.Deciding as deciding
use Rattle.p21_values.proofs.Several.{only_after}
use Rattle.p21_values.proofs.alone.only_token.Given as goal

abbrev pub invariant-choices : goal.invariant-choices
invariant-choices l =
    only_after l.found (filter_map (spec.by_choice l.types (deciding.alone l.types l.value)) (drop l.number-index l.numbers))
    ≡ spec.only (filter_map (spec.by_choice l.types (deciding.alone l.types l.value)) l.numbers)
