use Rattle.std.proofs.Common.{◌≡◌, drop}
use Rattle.rp_operations.specs.Operations.{set_union}
use Rattle.rp_operations.proofs.operations.set_union.Given as goal

abbrev pub invariant-loop-y : goal.invariant-loop-y
invariant-loop-y l = set_union l.found (drop l.y-index l.ys) ≡ set_union l.xs l.ys
