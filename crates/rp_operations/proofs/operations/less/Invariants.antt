use Rattle.std.proofs.Common.{◌≡◌, drop}
use Rattle.rp_operations.specs.Operations.{less}
use Rattle.rp_operations.proofs.operations.less.Given as goal

abbrev pub invariant-loop-y : goal.invariant-loop-y
invariant-loop-y l = less l.left (drop l.y-index l.ys) ≡ less l.xs l.ys
