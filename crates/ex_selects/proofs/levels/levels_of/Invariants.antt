use Rattle.ex_selects.specs.Levels.{AreLevels}
use Rattle.ex_selects.proofs.levels.levels_of.Given as goal

abbrev pub invariant-loop : goal.invariant-loop
invariant-loop l = AreLevels l.types l.asking l.levels.items
