use Rattle.std.proofs.Common.{arith}
use Rattle.std.proofs.lemmas.Grind.{common_steps}
use Rattle.rp_compile_names.proofs.declared_names.explicit_of.Goals as goal

pub loop-explicit-preserved : goal.loop-explicit-preserved
loop-explicit-preserved c = grind (arith, common_steps)

pub returns : goal.returns
returns c = grind (arith, common_steps)
