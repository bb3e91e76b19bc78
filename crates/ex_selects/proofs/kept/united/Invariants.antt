use Rattle.std.proofs.Common.{take}
use Rattle.ex_selects.specs.Kept.{IsUnited}
use Rattle.ex_selects.proofs.kept.united.Given as goal

abbrev pub invariant-loop-member : goal.invariant-loop-member
invariant-loop-member l = IsUnited l.all (take l.member-index l.members) l.found.keys
