use Rattle.std.proofs.Common.{◌≡◌, ◌++◌, map, drop}
use Rattle.name_tables.specs.Names.{bytes_of}
use Rattle.ex_declarations.proofs.uniqueness.texts.Given as goal

abbrev pub invariant-loop-name : goal.invariant-loop-name
invariant-loop-name l = bytes_of l.texts.items ++ map (λ n. n.now.text) (drop l.name-index l.names) ≡ map (λ n. n.now.text) l.names
