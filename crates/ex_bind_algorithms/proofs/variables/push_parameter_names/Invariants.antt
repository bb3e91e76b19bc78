use Rattle.std.proofs.Common.{◌≡◌, ◌++◌, map, drop}
use Rattle.ex_bind_algorithms.specs.Algorithms.{parameter_names}
use Rattle.ex_bind_algorithms.proofs.variables.push_parameter_names.Given as goal

abbrev pub invariant-loop-parameter : goal.invariant-loop-parameter
invariant-loop-parameter l = map (λ n. n.now) l.names.items ++ parameter_names (drop l.parameter-index l.parameters) ≡ map (λ n. n.now) l.initial.names.items ++ parameter_names l.parameters
