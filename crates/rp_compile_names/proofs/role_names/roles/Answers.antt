use Rattle.std.proofs.Common.{arith}
use Rattle.std.proofs.lemmas.Grind.{common_steps}
use Rattle.rp_compile_names.proofs.role_names.roles.Goals as goal

pub returns : goal.returns
returns c = grind (arith, common_steps)
