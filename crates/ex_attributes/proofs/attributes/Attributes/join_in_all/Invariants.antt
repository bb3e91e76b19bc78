use Rattle.std.proofs.Common.{◌≡◌, drop}
use Rattle.ex_attributes.specs.Attributes as spec
use Rattle.ex_attributes.specs.Steps.{read}
use Rattle.ex_attributes.proofs.attributes.Attributes.join_in_all.Given as goal

abbrev pub invariant-loop-attribute : goal.invariant-loop-attribute
invariant-loop-attribute l = spec.kinds_in_all l.self l.kinds (read (drop l.attribute-index l.declarations)) ≡ spec.kinds_in_all l.self l.initial.kinds (read l.declarations)
