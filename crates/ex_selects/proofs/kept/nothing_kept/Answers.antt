use Rattle.std.proofs.Common.{arith}
use Rattle.std.proofs.lemmas.Grind.{elements}
use Rattle.ex_selects.proofs.kept.nothing_kept.Goals as goal

pub loop-preserved : goal.loop-preserved
loop-preserved c = grind (arith, elements)
