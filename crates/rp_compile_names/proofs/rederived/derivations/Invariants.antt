use Rattle.std.proofs.Common.{◌≡◌, drop, filter, map, ◌++◌}
use Rattle.ex_attributes.specs.Attributes.{same_place}
use Rattle.rp_compile_names.proofs.rederived.derivations.Given as goal

abbrev pub invariant-loop-place : goal.invariant-loop-place
invariant-loop-place l = l.found ++ map (λ d. d.1) (filter (λ d. same_place d.0 l.attribute) (drop l.place-index l.rederived)) ≡ map (λ d. d.1) (filter (λ d. same_place d.0 l.attribute) l.rederived)
