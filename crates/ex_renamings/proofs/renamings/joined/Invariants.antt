use Rattle.std.proofs.Common.{◌≡◌, ◌++◌, map, drop}
use Rattle.ex_renamings.specs.Tables.{target}
use Rattle.ex_renamings.proofs.renamings.joined.Given as goal

abbrev pub invariant-loop-number : goal.invariant-loop-number
invariant-loop-number l = l.table.items ++ map (target l.second) (drop l.number-index l.first) ≡ map (target l.second) l.first
