use Rattle.std.proofs.Common.{◌≡◌, ◌++◌, map, drop}
use Rattle.ex_selects.proofs.items.table_of.Given as goal

abbrev pub invariant-loop-name : goal.invariant-loop-name
invariant-loop-name l = l.table ++ map (λ n. n.text) (drop l.name-index l.names) ≡ map (λ n. n.text) l.names
