use Rattle.std.proofs.Common.{rules}
use Rattle.rp_readers.proofs.Names.{among_names}
use Rattle.rp_readers.proofs.model_names.has_instance.Goals as goal

pub returns : goal.returns
returns c = rw (← among_names c.args.name c.args.instances.now) (search rules)
