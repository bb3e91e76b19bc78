use Rattle.std.proofs.Common.{◌≡◌, drop, map, ◌++◌}
use Rattle.rp_compile_names.proofs.declared_names.inverse_names.Given as goal

abbrev pub invariant-loop-inverse : goal.invariant-loop-inverse
invariant-loop-inverse l = map (λ n. n.now) l.names.items ++ map (λ x. x.name.text) (drop l.inverse-index l.list) ≡ map (λ x. x.name.text) l.list
