use Rattle.std.proofs.Common.{sym}
use Rattle.rp_operators.proofs.Replaced.{present-aggregate}
use Rattle.rp_operators.proofs.references.+present.Goals as goal

pub present-returns-in-Agg : goal.present-returns-in-Agg
present-returns-in-Agg t c = rw (sym (present-aggregate c.args.count c.args.value.now c.in-Agg.kind c.in-Agg.elements c.in-Agg.is)) at c.present_aggregate.ensures
