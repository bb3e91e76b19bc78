use Rattle.std.proofs.Common.{◌≡◌, ◌++◌, map, drop}
use Rattle.ex_bind_entities.proofs.scope_names.push_inverse.Given as goal

abbrev pub invariant-loop-inverse : goal.invariant-loop-inverse
invariant-loop-inverse l = map (λ n. n.now) l.names.items ++ map (λ x. x.name) (drop l.inverse-index l.list) ≡ map (λ n. n.now) l.initial.names.items ++ map (λ x. x.name) l.list
