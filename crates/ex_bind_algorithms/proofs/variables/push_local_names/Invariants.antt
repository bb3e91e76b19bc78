use Rattle.std.proofs.Common.{◌≡◌, ◌++◌, map, drop}
use Rattle.ex_bind_algorithms.specs.Algorithms.{local_names}
use Rattle.ex_bind_algorithms.proofs.variables.push_local_names.Given as goal

abbrev pub invariant-loop-local : goal.invariant-loop-local
invariant-loop-local l = map (λ n. n.now) l.names.items ++ local_names (drop l.local-index l.locals) ≡ map (λ n. n.now) l.initial.names.items ++ local_names l.locals
