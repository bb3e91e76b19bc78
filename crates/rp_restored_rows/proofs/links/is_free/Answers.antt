use Rattle.rp_restored_rows.proofs.LinkTests.{none_found}
use Rattle.rp_restored_rows.proofs.links.is_free.Goals as goal

pub returns : goal.returns
returns c = none_found c.args.instances.now c.args.link.now.name c.get.result c.is_none.result c.is_none.ensures c.get.ensures
