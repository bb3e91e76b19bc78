use Rattle.std.proofs.Common.{take}
use Rattle.ex_kinds.specs.Indexed.{AreEntities}
use Rattle.ex_kinds.proofs.indexed.entities_of.Given as goal

abbrev pub invariant-loop-kind : goal.invariant-loop-kind
invariant-loop-kind l = AreEntities l.entities.keys (take l.kind-index l.kinds)
