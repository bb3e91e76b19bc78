use Rattle.std.proofs.Common.{◌≡◌, not, drop}
use Rattle.std.specs.List.{list_any}
use Rattle.ex_operators.specs.Fitting.{are_comparable, possibly}
use Rattle.ex_operators.proofs.cases.is_any_beside.Given as goal

abbrev pub invariant-loop-label : goal.invariant-loop-label
invariant-loop-label l = list_any (λ label. not (are_comparable l.selector.possible (possibly l.types label))) (drop l.label-index l.labels)
    ≡ list_any (λ label. not (are_comparable l.selector.possible (possibly l.types label))) l.labels
