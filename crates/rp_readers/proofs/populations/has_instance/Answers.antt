use Rattle.std.proofs.Common.{rules}
use Rattle.rp_readers.proofs.Names.{has_named}
use Rattle.rp_readers.proofs.populations.has_instance.Goals as goal

pub returns : goal.returns
returns c = rw (← has_named c.args.name c.args.instances.now) (search rules)
