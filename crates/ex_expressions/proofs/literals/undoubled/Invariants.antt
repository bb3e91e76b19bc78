use Rattle.std.proofs.Common.{◌≡◌, ◌++◌, drop, false}
use Rattle.ex_expressions.specs.Literals.{undoubled}
use Rattle.ex_expressions.proofs.literals.undoubled.Given as goal

abbrev pub invariant-bytes : goal.invariant-bytes
invariant-bytes l = l.found.items ++ undoubled l.is_second (drop l.byte-index l.bytes) ≡ undoubled false l.bytes
