use Rattle.std.proofs.Common.{take}
use Rattle.ex_selects.specs.Levels.{AreGroups}
use Rattle.ex_selects.proofs.levels.level_of.Given as goal

abbrev pub invariant-loop-target : goal.invariant-loop-target
invariant-loop-target l = AreGroups l.types l.targets (take l.target-index l.asking) l.groups.items
