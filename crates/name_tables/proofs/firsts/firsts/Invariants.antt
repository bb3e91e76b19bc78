use Rattle.std.proofs.Common.{◌≡◌, ℕ, List, take}
use Rattle.name_tables.specs.Names.{named, rows_of, first_of, first_in}
use Rattle.name_tables.proofs.firsts.firsts.Given as goal

abbrev pub invariant-loop-name : goal.invariant-loop-name
invariant-loop-name g l = (name : List ℕ) → first_in name l.by_name ≡ first_of (named name (rows_of (take l.name-index l.rows)))
