use Rattle.std.proofs.Common.{arith}
use Rattle.std.proofs.lemmas.Grind.{common_steps}
use Rattle.rp_compile_names.proofs.declared_names.derived_names.Goals as goal

pub loop-derived-preserved : goal.loop-derived-preserved
loop-derived-preserved c = grind (arith, common_steps)

pub returns : goal.returns
returns c = grind (arith, common_steps)
