use Rattle.std.proofs.Common.{◌≡◌, ◌+◌, map, drop}
use Rattle.std.specs.List.{sum}
use Rattle.rp_meaning.specs.BuiltIns.{size}
use Rattle.rp_operators.proofs.costs.+sizes.Given as goal

-- what is left of the most, and the sizes of what is left of the values
abbrev pub invariant-size_of_elements-loop-value : goal.invariant-size_of_elements-loop-value
invariant-size_of_elements-loop-value l = l.left + (1 + sum (map size l.values)) ≡ l.most + sum (map size (drop l.value-index l.values))
