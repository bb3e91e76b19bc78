use Rattle.std.proofs.Common.{◌≡◌, drop}
use Rattle.ex_attributes.specs.Attributes as spec
use Rattle.ex_attributes.specs.Steps.{read}
use Rattle.ex_attributes.proofs.latest.join_all.Given as goal

abbrev pub invariant-loop-redeclared : goal.invariant-loop-redeclared
invariant-loop-redeclared l = spec.all_kinds l.kinds (read (drop l.redeclared-index l.all)) ≡ spec.all_kinds l.initial.kinds (read l.all)
