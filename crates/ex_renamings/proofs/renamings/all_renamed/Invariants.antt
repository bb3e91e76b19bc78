use Rattle.std.proofs.Common.{◌≡◌, ◌++◌, map, drop}
use Rattle.ex_renamings.specs.Renamings.{renamed}
use Rattle.ex_renamings.proofs.renamings.all_renamed.Given as goal

abbrev pub invariant-loop-number : goal.invariant-loop-number
invariant-loop-number l = l.further.items ++ map (renamed l.types) (drop l.number-index l.table) ≡ map (renamed l.types) l.table
