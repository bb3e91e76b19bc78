use Rattle.std.proofs.Common.{◌≡◌, ◌++◌, map, drop}
use Rattle.ex_bind_algorithms.proofs.variables.frame_of.Given as goal

abbrev pub invariant-loop-name : goal.invariant-loop-name
invariant-loop-name l = l.table ++ map (λ n. n.text) (map (λ n. n.now) (drop l.name-index l.names)) ≡ map (λ n. n.text) (map (λ n. n.now) l.names)
