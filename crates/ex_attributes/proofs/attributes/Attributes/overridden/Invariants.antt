use Rattle.std.proofs.Common.{◌≡◌, ℕ, ◌||◌, drop}
use Rattle.plain_data.specs.Numbers.{is_among}
use Rattle.ex_attributes.specs.Attributes as spec
use Rattle.ex_attributes.specs.Steps.{read}
use Rattle.ex_attributes.proofs.attributes.Attributes.overridden.Given as goal

abbrev pub invariant-loop-redeclared : goal.invariant-loop-redeclared
invariant-loop-redeclared l = (k : ℕ) →
    (is_among l.found.keys k || spec.is_overridden l.self (read (drop l.redeclared-index l.all)) k) ≡ spec.is_overridden l.self (read l.all) k
