use Rattle.std.proofs.Common.{◌≡◌, ◌++◌, drop}
use Rattle.ex_scopes.proofs.owned.push_all_names.Given as goal

abbrev pub invariant-loop-name : goal.invariant-loop-name
invariant-loop-name l = record l.tables { names = l.tables.names ++ drop l.name-index l.rows } ≡ record l.initial.tables { names = l.initial.tables.names ++ l.rows }
