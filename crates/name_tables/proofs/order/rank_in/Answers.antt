use Rattle.std.proofs.Common.{sym}
use Rattle.name_tables.proofs.Ranks.{rank_is}
use Rattle.name_tables.proofs.order.rank_in.Goals as goal

pub returns : goal.returns
returns c = sym (rank_is c.args.name.now c.args.rows.now c.requires c.first_not_before.result c.first_not_before.ensures.within c.first_not_before.ensures.parts)
