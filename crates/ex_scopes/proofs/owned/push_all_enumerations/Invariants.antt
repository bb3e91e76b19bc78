use Rattle.std.proofs.Common.{◌≡◌, ◌++◌, drop}
use Rattle.ex_scopes.proofs.owned.push_all_enumerations.Given as goal

abbrev pub invariant-loop-is_enumeration : goal.invariant-loop-is_enumeration
invariant-loop-is_enumeration l = record l.tables { enumerations = l.tables.enumerations ++ drop l.is_enumeration-index l.marks } ≡ record l.initial.tables { enumerations = l.initial.tables.enumerations ++ l.marks }
