use Rattle.rp_operators.proofs.Sights.{carries}
use Rattle.rp_operators.proofs.bare.unnamed.Goals as goal

pub unreachable-requires : goal.unreachable-requires
unreachable-requires c = carries c.args.value.now c.in-Named.defined_type _ c.in-Named.is c.requires
