use Rattle.std.proofs.Common.{◌≡◌, drop, map, ◌++◌}
use Rattle.rp_meaning.specs.Compiled as compiled
use Rattle.rp_compile.proofs.entities.unique_rule.Given as goal

abbrev pub invariant-loop-attribute : goal.invariant-loop-attribute
invariant-loop-attribute l = l.found ++ map compiled.declaration (drop l.attribute-index l.rule.attributes) ≡ map compiled.declaration l.rule.attributes
