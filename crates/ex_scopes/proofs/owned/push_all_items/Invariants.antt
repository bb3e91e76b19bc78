use Rattle.std.proofs.Common.{◌≡◌, ◌++◌, drop}
use Rattle.ex_scopes.proofs.owned.push_all_items.Given as goal

abbrev pub invariant-loop-name : goal.invariant-loop-name
invariant-loop-name l = record l.tables { items = l.tables.items ++ drop l.name-index l.rows } ≡ record l.initial.tables { items = l.initial.tables.items ++ l.rows }
