use Rattle.std.proofs.Common.{sym}
use Rattle.rp_operators.proofs.Sights.{bare-unnamed}
use Rattle.rp_operators.proofs.bare.+beneath.Goals as goal

pub returns-in_default : goal.returns-in_default
returns-in_default t c = sym (bare-unnamed c.args.value.now c.in_default.not-Named)
