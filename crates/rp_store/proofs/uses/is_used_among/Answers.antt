use Rattle.std.proofs.Common.{◌∙◌}
use Rattle.rp_store.proofs.Using.{used_among}
use Rattle.rp_store.proofs.uses.is_used_among.Goals as goal

pub returns : goal.returns
returns c = c.is_used_by.ensures ∙ used_among c.args.name c.args.users.now.keys c.args.instances.now c.len.ensures.ordered c.ordered.ensures.order c.requires
