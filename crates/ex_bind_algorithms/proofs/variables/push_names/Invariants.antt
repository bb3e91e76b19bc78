use Rattle.std.proofs.Common.{◌≡◌, ◌++◌, map, drop}
use Rattle.ex_bind_algorithms.proofs.variables.push_names.Given as goal

abbrev pub invariant-loop-name : goal.invariant-loop-name
invariant-loop-name l = map (λ n. n.now) l.names.items ++ drop l.name-index l.more ≡ map (λ n. n.now) l.initial.names.items ++ l.more
