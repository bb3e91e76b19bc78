use Rattle.std.proofs.Common.{arith}
use Rattle.std.proofs.lemmas.Grind.{common_steps}
use Rattle.rp_compile_names.proofs.rederived.rows_by_entity.Goals as goal

pub loop-rederived-preserved : goal.loop-rederived-preserved
loop-rederived-preserved c = grind (arith, common_steps)

pub returns : goal.returns
returns c = grind (arith, common_steps)
