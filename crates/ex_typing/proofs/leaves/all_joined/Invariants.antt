use Rattle.std.proofs.Common.{◌≡◌, [], drop}
use Rattle.ex_typing.specs.Expressions as spec
use Rattle.ex_typing.proofs.leaves.all_joined.Given as goal

abbrev pub invariant-loop-kinds : goal.invariant-loop-kinds
invariant-loop-kinds l = spec.joined_after l.found (drop l.kinds-index l.list) ≡ spec.joined_after [] l.initial.list
