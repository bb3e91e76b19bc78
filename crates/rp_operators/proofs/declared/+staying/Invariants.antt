use Rattle.std.proofs.Common.{◌≡◌, map, take}
use Rattle.rp_operators.specs.Ends.{element_under}
use Rattle.rp_operators.proofs.declared.+staying.Given as goal

abbrev pub invariant-all_stay-loop-value : goal.invariant-all_stay-loop-value
invariant-all_stay-loop-value l = map (element_under l.types l.data_type) (take l.value-index l.values) ≡ take l.value-index l.values
