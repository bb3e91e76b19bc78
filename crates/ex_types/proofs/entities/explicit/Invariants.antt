use Rattle.std.proofs.Common.{◌≡◌, drop}
use Rattle.ex_types.specs.Declarations as spec
use Rattle.ex_types.proofs.entities.explicit.Given as goal

abbrev pub invariant-loop-each : goal.invariant-loop-each
invariant-loop-each l = spec.told_after (λ x. spec.told spec.attribute x.attributes) l.found (drop l.each-index l.list) ≡ spec.told (λ x. spec.told spec.attribute x.attributes) l.list
