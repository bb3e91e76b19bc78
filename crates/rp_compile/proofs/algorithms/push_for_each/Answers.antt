use Rattle.std.proofs.Common.{arith}
use Rattle.std.proofs.lemmas.Grind.{common_steps}
use Rattle.rp_compile.proofs.algorithms.push_for_each.Goals as goal

pub loop-name-preserved : goal.loop-name-preserved
loop-name-preserved c = (grind (arith, common_steps), grind (arith, common_steps))

pub returns-clause-types : goal.returns-clause-types
returns-clause-types c = grind (arith, common_steps)

pub returns-clause-count : goal.returns-clause-count
returns-clause-count c = grind (arith, common_steps)
