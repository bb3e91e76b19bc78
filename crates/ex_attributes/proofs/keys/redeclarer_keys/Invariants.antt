use Rattle.std.proofs.Common.{◌≡◌, ◌++◌, map, drop}
use Rattle.ex_attributes.specs.Tables as tables
use Rattle.ex_attributes.proofs.keys.redeclarer_keys.Given as goal

abbrev pub invariant-loop-redeclared : goal.invariant-loop-redeclared
invariant-loop-redeclared l = l.keys.items ++ map tables.redeclarer_key (drop l.redeclared-index l.rows) ≡ map tables.redeclarer_key l.rows
