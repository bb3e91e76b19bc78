use Rattle.std.proofs.Common.{◌≡◌, ◌++◌, drop}
use Rattle.ex_scopes.proofs.owned.push_all_attributes.Given as goal

abbrev pub invariant-loop-name : goal.invariant-loop-name
invariant-loop-name l = record l.tables { attributes = l.tables.attributes ++ drop l.name-index l.rows } ≡ record l.initial.tables { attributes = l.initial.tables.attributes ++ l.rows }
