use Rattle.std.proofs.Common.{◌≡◌, drop, map, ◌++◌}
use Rattle.rp_compile.specs.Declarations as spec
use Rattle.rp_compile.proofs.entities.all_given.Given as goal

abbrev pub invariant-loop-derived : goal.invariant-loop-derived
invariant-loop-derived l = l.found ++ map (λ d. spec.given l.schema l.scope d.data_type d.value) (drop l.derived-index l.list) ≡ map (λ d. spec.given l.schema l.scope d.data_type d.value) l.list
