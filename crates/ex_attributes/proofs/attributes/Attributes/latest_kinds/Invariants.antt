use Rattle.std.proofs.Common.{◌≡◌, [], not, filter, drop}
use Rattle.ex_attributes.specs.Attributes as spec
use Rattle.ex_attributes.specs.Steps.{read}
use Rattle.ex_attributes.proofs.attributes.Attributes.latest_kinds.Given as goal

abbrev pub invariant-loop-redeclared : goal.invariant-loop-redeclared
invariant-loop-redeclared l =
    spec.all_kinds l.kinds (filter (λ r. not (spec.is_overridden l.self (read l.all) r.entity)) (read (drop l.redeclared-index l.all)))
    ≡ spec.all_kinds [] (spec.latest l.self (read l.all))
