use Rattle.std.proofs.Common.{◌≡◌, drop}
use Rattle.ex_attributes.specs.Attributes as spec
use Rattle.ex_attributes.proofs.attributes.Attributes.found_from.Given as goal

abbrev pub invariant-loop-kind : goal.invariant-loop-kind
invariant-loop-kind l = spec.found_after l.self l.name l.found (drop l.kind-index l.kinds) ≡ spec.found_after l.self l.name l.fn.before l.kinds
