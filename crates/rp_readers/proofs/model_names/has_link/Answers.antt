use Rattle.std.proofs.Common.{rules}
use Rattle.rp_rows.specs.Contents.{link_name}
use Rattle.rp_readers.proofs.Names.{among_named}
use Rattle.rp_readers.proofs.model_names.has_link.Goals as goal

pub returns : goal.returns
returns c = rw (← among_named link_name c.args.name c.args.links.now) (search rules)
