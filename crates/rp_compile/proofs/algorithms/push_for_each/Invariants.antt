use Rattle.std.proofs.Common.{◌≡◌, drop, length, map, ◌++◌, ◌+◌}
use Rattle.rp_compile.proofs.algorithms.push_for_each.Given as goal

abbrev pub invariant-loop-name : goal.invariant-loop-name
invariant-loop-name l = (map (λ t. t.now) l.found.items ++ map (λ _. l.data_type) (drop l._name-index l.names) ≡ map (λ t. t.now) l.initial.found.items ++ map (λ _. l.data_type) l.names) × (length l.found.items ≡ length l.initial.found.items + l._name-index)
