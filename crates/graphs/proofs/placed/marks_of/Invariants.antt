use Rattle.std.proofs.Common.{take}
use Rattle.graphs.specs.Placed.{AreMarks}
use Rattle.graphs.proofs.placed.marks_of.Given as goal

abbrev pub invariant-loop-member : goal.invariant-loop-member
invariant-loop-member l = AreMarks l.marks.items (take l.member-index l.members)
