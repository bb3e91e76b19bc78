use Rattle.std.proofs.Common.{◌≡◌, drop, map, ◌++◌}
use Rattle.rp_meaning.specs.Compiled as compiled
use Rattle.rp_compile.proofs.entities.inverse_attributes.Given as goal

abbrev pub invariant-loop-inverse : goal.invariant-loop-inverse
invariant-loop-inverse l = l.found ++ map (compiled.inverse) (drop l.inverse-index l.list) ≡ map (compiled.inverse) l.list
