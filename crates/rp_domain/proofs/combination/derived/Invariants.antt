use Rattle.std.proofs.Common.{◌≡◌, ◌++◌, map, drop}
use Rattle.rp_meaning.specs.Reading.{is_derived}
use Rattle.rp_domain.proofs.combination.derived.Given as goal

abbrev pub invariant-loop-attribute : goal.invariant-loop-attribute
invariant-loop-attribute l = l.found ++ map (is_derived l.schema l.entities) (drop l.attribute-index l.attributes) ≡ map (is_derived l.schema l.entities) l.attributes
