use Rattle.std.proofs.Common.{◌≡◌, [], Ok, map, take, drop}
use Rattle.ex_declarations.specs.Declared as spec
use Rattle.ex_declarations.proofs.uniqueness.are_few_distinct.Given as goal

abbrev pub invariant-loop-place : goal.invariant-loop-place
invariant-loop-place l = spec.once_after (map (λ n. n.now.text) (take l.place l.names)) (Ok tt) (map (λ n. n.now) (drop l.place l.names)) ≡ spec.once_after [] (Ok tt) (map (λ n. n.now) l.names)
