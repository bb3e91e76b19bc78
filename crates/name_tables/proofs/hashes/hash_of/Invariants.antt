use Rattle.std.proofs.Common.{◌≡◌, drop}
use Rattle.name_tables.specs.Hashes.{hash_after, hash_of}
use Rattle.name_tables.proofs.hashes.hash_of.Given as goal

abbrev pub invariant-loop-byte : goal.invariant-loop-byte
invariant-loop-byte l = hash_after l.hash (drop l.byte-index l.name) ≡ hash_of l.name
