use Rattle.std.proofs.Common.{◌≡◌, ◌++◌, drop}
use Rattle.ex_bind.proofs.copies.copy_names.Given as goal

abbrev pub invariant-loop-name : goal.invariant-loop-name
invariant-loop-name l = l.copies.items ++ drop l.name-index l.names ≡ l.names
