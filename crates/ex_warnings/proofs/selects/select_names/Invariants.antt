use Rattle.std.proofs.Common.{◌≡◌, ◌++◌, drop}
use Rattle.ex_warnings.specs.Selects.{select_names_from}
use Rattle.ex_warnings.proofs.selects.select_names.Given as goal

abbrev pub invariant-loop-number : goal.invariant-loop-number
invariant-loop-number l = l.names ++ select_names_from l.types l.number (drop l.number l.types) ≡ select_names_from l.types 0 l.types
