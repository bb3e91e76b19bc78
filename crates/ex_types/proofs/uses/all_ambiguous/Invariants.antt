use Rattle.std.proofs.Common.{◌≡◌, drop}
use Rattle.ex_types.specs.Declarations as spec
use Rattle.ex_types.proofs.uses.all_ambiguous.Given as goal

abbrev pub invariant-loop-name : goal.invariant-loop-name
invariant-loop-name l = spec.told_after spec.ambiguous l.found (drop l.name-index l.names) ≡ spec.told spec.ambiguous l.names
