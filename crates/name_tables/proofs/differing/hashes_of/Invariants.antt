use Rattle.std.proofs.Common.{◌≡◌, ◌++◌, map, drop}
use Rattle.name_tables.specs.Hashes.{hash_of}
use Rattle.name_tables.proofs.differing.hashes_of.Given as goal

abbrev pub invariant-loop-name : goal.invariant-loop-name
invariant-loop-name l = l.hashes.items ++ map (λ n. hash_of n.now) (drop l.name-index l.names) ≡ map (λ n. hash_of n.now) l.names
