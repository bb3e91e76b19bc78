use Rattle.std.proofs.Common.{◌≡◌, ◌++◌, map, drop}
use Rattle.rp_domain.specs.Combinations.{attribute_of}
use Rattle.rp_domain.proofs.combination.uses_of.Given as goal

abbrev pub invariant-loop-attribute : goal.invariant-loop-attribute
invariant-loop-attribute l = l.found ++ map (attribute_of l.entities) (drop l.attribute-index l.attributes) ≡ map (attribute_of l.entities) l.attributes
