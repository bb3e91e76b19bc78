use Rattle.std.proofs.Common.{◌≡◌, ◌++◌, map, drop}
use Rattle.rp_operators.specs.Ends.{element_under}
use Rattle.rp_operators.proofs.declared.+declared.Given as goal

-- what is found, and what becomes of those that are left
abbrev pub invariant-each_under-loop-value : goal.invariant-each_under-loop-value
invariant-each_under-loop-value l = l.found ++ map (element_under l.types l.data_type) (drop l.value-index l.values) ≡ map (element_under l.types l.data_type) l.values
