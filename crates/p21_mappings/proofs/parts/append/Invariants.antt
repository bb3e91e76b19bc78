use Rattle.std.proofs.Common.{◌≡◌, ◌++◌, drop}
use Rattle.p21_mappings.proofs.parts.append.Given as goal

abbrev pub invariant-loop-value : goal.invariant-loop-value
invariant-loop-value l = l.found ++ drop l.value-index l.values ≡ l.initial.found ++ l.values
