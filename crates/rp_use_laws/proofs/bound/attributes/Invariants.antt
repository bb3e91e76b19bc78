use Rattle.std.proofs.Common.{◌≡◌, drop}
use Rattle.std.specs.List.{list_all}
use Rattle.rp_use_laws.specs.Schemas.{is_attribute_identified}
use Rattle.rp_use_laws.proofs.bound.attributes.Given as goal

abbrev pub invariant-loop-declared : goal.invariant-loop-declared
invariant-loop-declared l = list_all is_attribute_identified (drop l.declared-index l.attributes) ≡ list_all is_attribute_identified l.attributes
